use Rattle.std.proofs.Common.{◌≡◌, ◌++◌, [], All, IsTrue, false, map}
use Rattle.node_worker.specs.KeptView.{AreTrusted, member_of}
use Rattle.node_worker.specs.Replays.{opening}
use Rattle.node_worker.proofs.kept.keep_all.Given as goal

abbrev pub invariant-loop-node : goal.invariant-loop-node
invariant-loop-node g l =
    let rest = l.node-iterator.rest.items in
    (map member_of l.kepts.items ++ map (λ n. ((g.N.Node.who n).id, (g.N.Node.who n).members)) rest ≡ map (λ n. ((g.N.Node.who n).id, (g.N.Node.who n).members)) l.fn.nodes.items)
    × All (λ n. IsTrue (g.N.Node.honest n) → g.N.Node.stands n opening) rest
    × All (λ n. (g.N.Node.who n).down ≡ false) rest
    × All (λ k. (k.entries ≡ []) × (k.quota ≡ l.quota)) l.kepts.items
    × (AreTrusted g.N.Node.honest → All (λ k. IsTrue k.honest) l.kepts.items)
