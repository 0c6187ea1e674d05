use Rattle.std.proofs.Common.{◌≡◌, take}
use Rattle.grant_machine.specs.Runs.{outputs_of, rows_after}
use Rattle.upsched_json.specs.Plans.{PrintsOutputs}
use Rattle.upsched_json.proofs.plan_run.print_outputs.Given as goal

abbrev pub invariant-loop-i : goal.invariant-loop-i
invariant-loop-i g l =
    (l.machine ≡ rows_after (take l.i l.commands))
    × PrintsOutputs (outputs_of (take l.i l.commands)) (g.O.Write.contents l.initial.output) (g.O.Write.contents l.output)
