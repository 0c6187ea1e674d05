use Rattle.std.proofs.Common.{◌≡◌, ◌++◌, map, true, false, All}
use Rattle.std.specs.Vec.Iter.{into_iter_items}
use Rattle.seats.specs.Occupant.{is_up, node_of}
use Rattle.network_script.proofs.world.seated.Given as goal

abbrev pub invariant-loop-node : goal.invariant-loop-node
invariant-loop-node g l = record {
  whole : map node_of l.seats.items ++ into_iter_items l.node-iterator ≡ l.fn.nodes.items;
  runs : All (λ node. (g.N.Node.who node).down ≡ false) (into_iter_items l.node-iterator);
  up : All (λ seat. is_up seat ≡ true) l.seats.items;
}
