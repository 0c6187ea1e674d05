use Rattle.std.proofs.Common.{take, flat_map}
use Rattle.std.specs.Io.KnownBytes.{Appends}
use Rattle.upsched_store.specs.Surveys.{taken_line}
use Rattle.upsched_store.proofs.refused_run.print_all_taken.Given as goal

abbrev pub invariant-loop-found : goal.invariant-loop-found
invariant-loop-found g l =
    Appends (g.E.Write.contents l.initial.errors) (g.E.Write.contents l.errors) (flat_map (taken_line l.folder) (take l.found-index l.all))
