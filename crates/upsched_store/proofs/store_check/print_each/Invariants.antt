use Rattle.std.proofs.Common.{take, flat_map}
use Rattle.std.specs.Io.KnownBytes.{Appends}
use Rattle.upsched_store.specs.Surveys.{state_line}
use Rattle.upsched_store.proofs.store_check.print_each.Given as goal

abbrev pub invariant-loop-found : goal.invariant-loop-found
invariant-loop-found g l =
    Appends (g.O.Write.contents l.initial.output) (g.O.Write.contents l.output) (flat_map (state_line l.folder) (take l.found-index l.states))
