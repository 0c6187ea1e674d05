use Rattle.std.proofs.Common.{take}
use Rattle.std.specs.Io.KnownBytes.{Appends}
use Rattle.upsched_run.specs.RunLines.{place_lines}
use Rattle.upsched_run.proofs.rows.print_places.Given as goal

abbrev pub invariant-loop-one : goal.invariant-loop-one
invariant-loop-one g l =
    Appends (g.O.Write.contents l.initial.output) (g.O.Write.contents l.output) (place_lines (take l.one-index l.released))
