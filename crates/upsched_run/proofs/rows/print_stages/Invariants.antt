use Rattle.std.proofs.Common.{take}
use Rattle.std.specs.Io.KnownBytes.{Appends}
use Rattle.std.specs.List.{flat_map}
use Rattle.upsched_run.specs.RunLines.{stage_lines}
use Rattle.upsched_run.proofs.rows.print_stages.Given as goal

abbrev pub invariant-loop-stage : goal.invariant-loop-stage
invariant-loop-stage g l =
    Appends (g.O.Write.contents l.initial.output) (g.O.Write.contents l.output) (flat_map (stage_lines l.trace l.run.rows) (take l.stage-index l.run.stages))
