use Rattle.grant_machine.specs.Runs.{IsReached}
use Rattle.upsched_check.proofs.Captured.{Written}
use Rattle.upsched_check.proofs.captures.write_maps.Given as goal

abbrev pub invariant-loop-command : goal.invariant-loop-command
invariant-loop-command g l =
    IsReached l.machine × Written l.commands l.command-index l.machine l.count (g.O.Write.contents l.initial.output) (g.O.Write.contents l.output)
