use Rattle.std.proofs.Common.{List, ◌++◌}
use Rattle.grant_machine.specs.declared.command.Command.{Command}
use Rattle.node.specs.View.{Standing}
use Rattle.seats.specs.Occupant.{Stands}
use Rattle.upsched_draw.specs.Learned.{AreLearned, AreLearnedFrom}
use Rattle.upsched_draw.proofs.learned.commands_of.Given as goal

abbrev pub invariant-loop-place : goal.invariant-loop-place
invariant-loop-place g l = (s : Standing) → Stands l.seat s → (cs : List Command) → AreLearnedFrom l.place s cs → AreLearned s (l.commands.items ++ cs)
