use Rattle.std.proofs.Common.{◌≡◌, ◌++◌, All, IsTrue, map, length}
use Rattle.node_worker.specs.KeptView.{AreTrusted, made_as}
use Rattle.node_worker.proofs.cluster.paired.Given as goal

abbrev pub invariant-loop-kept : goal.invariant-loop-kept
invariant-loop-kept g l =
    let rest = l.kept-iterator.rest.items in
    (map (λ p. made_as p.0) l.pairs.items ++ map made_as rest ≡ map made_as l.fn.kepts.items)
    × (map (λ p. g.C.Carrier.given p.1) l.pairs.items ++ map g.C.Carrier.given l.rest.rest.items ≡ map g.C.Carrier.given l.fn.carriers.items)
    × (length l.rest.rest.items ≡ length rest)
    × (AreTrusted g.N.Node.honest → All (λ p. IsTrue p.0.honest) l.pairs.items × All (λ k. IsTrue k.honest) rest)
    × (map (λ p. g.C.Carrier.left p.1) l.pairs.items ++ map g.C.Carrier.left l.rest.rest.items ≡ map g.C.Carrier.left l.fn.carriers.items)
