use Rattle.std.proofs.Common.{take, flat_map}
use Rattle.std.specs.Io.KnownBytes.{Appends}
use Rattle.upsched_store.specs.Commitless.{commitless_in}
use Rattle.upsched_store.proofs.commitless.print_each_commitless.Given as goal

abbrev pub invariant-loop-found : goal.invariant-loop-found
invariant-loop-found g l =
    Appends (g.E.Write.contents l.initial.errors) (g.E.Write.contents l.errors) (flat_map (commitless_in l.folder) (take l.found-index l.states))
