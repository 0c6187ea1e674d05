use Rattle.std.proofs.Common.{◌≡◌, ◌++◌, [], All, IsTrue, map}
use Rattle.node_worker.specs.KeptView.{AreTrusted, made_as}
use Rattle.node_worker.proofs.worker.fn.work_in_threads.scope.Given as goal

abbrev pub invariant-loop-kept : goal.invariant-loop-kept
invariant-loop-kept g l =
    let rest = l.kept-iterator.rest.items in
    let all = l.initial.kept-iterator.rest.items in
    (map (λ h. made_as h.promise.kept.value) l.handles.items ++ map (λ p. made_as p.0) rest ≡ map (λ p. made_as p.0) all)
    × (map (λ h. g.C.Carrier.given h.promise.carrier.value) l.handles.items ++ map (λ p. g.C.Carrier.given p.1) rest ≡ map (λ p. g.C.Carrier.given p.1) all)
    × (l.kepts.items ≡ []) × (l.carriers.items ≡ [])
    × (AreTrusted g.N.Node.honest → All (λ p. IsTrue p.0.honest) rest)
    × (map (λ h. g.C.Carrier.left h.promise.carrier.value) l.handles.items ++ map (λ p. g.C.Carrier.left p.1) rest ≡ map (λ p. g.C.Carrier.left p.1) all)

abbrev pub invariant-loop-handle : goal.invariant-loop-handle
invariant-loop-handle g l =
    let rest = l.handle-iterator.rest.items in
    let all = l.initial.handle-iterator.rest.items in
    (map made_as l.kepts.items ++ map (λ h. made_as h.promise.kept.value) rest ≡ map (λ h. made_as h.promise.kept.value) all)
    × (map g.C.Carrier.given l.carriers.items ++ map (λ h. g.C.Carrier.given h.promise.carrier.value) rest ≡ map (λ h. g.C.Carrier.given h.promise.carrier.value) all)
    × All (λ c. g.C.Carrier.left c ≡ 0) l.carriers.items
    × (AreTrusted g.N.Node.honest → All (λ k. IsTrue k.honest) l.kepts.items)
    × (map (λ k. k.turns) l.kepts.items ++ map (λ h. g.C.Carrier.left h.promise.carrier.value) rest ≡ map (λ h. g.C.Carrier.left h.promise.carrier.value) all)
