use Rattle.std.proofs.Common.{◌≡◌}
use Rattle.command_log.specs.View.{IsLog}
use Rattle.node.specs.Learned.{IsPart}
use Rattle.node.proofs.knowledge.apply.Given as goal

abbrev pub invariant-loop-applied : goal.invariant-loop-applied
invariant-loop-applied l = (l.log.applied ≡ l.applied) × IsLog l.log × IsPart l.log.learned l.learned.entries
