use Rattle.std.proofs.Common.{◌≡◌, ◌++◌}
use Rattle.std.specs.Vec.Iter.{into_iter_items}
use Rattle.network_script.specs.World.{released_by}
use Rattle.network_script.proofs.world.with_node.Given as goal

abbrev pub invariant-loop-numbered : goal.invariant-loop-numbered
invariant-loop-numbered l = record { whole : l.outputs.items ++ released_by l.k (into_iter_items l.numbered-iterator) ≡ released_by l.k l.fn.released.items }
