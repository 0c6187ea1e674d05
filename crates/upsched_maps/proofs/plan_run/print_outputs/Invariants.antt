use Rattle.std.proofs.Common.{◌≡◌, take}
use Rattle.std.specs.Io.KnownBytes.{Appends}
use Rattle.grant_machine.specs.Runs.{rows_from}
use Rattle.upsched_maps.specs.Refusals.{lines_from}
use Rattle.upsched_maps.proofs.Printed.{line_of_output}
use Rattle.upsched_maps.proofs.plan_run.print_outputs.Given as goal

abbrev pub invariant-loop-i : goal.invariant-loop-i
invariant-loop-i g l =
    (l.machine ≡ rows_from l.initial.machine (take l.i l.commands))
    × Appends (g.O.Write.contents l.initial.output) (g.O.Write.contents l.output) (lines_from line_of_output 1 l.initial.machine (take l.i l.commands))
