use Rattle.std.proofs.Common.{rules, ◌≡◌, ◌∙◌, ◌++◌, All, IsTrue, List, ap, sym, subst, map, arith}
use Rattle.std.proofs.lemmas.List.Elements.{All-push, All-head, All-tail}
use Rattle.std.proofs.lemmas.List.{nil_from_length}
use Rattle.node_worker.specs.KeptView.{KeptView, made_as}
use Rattle.node_worker.proofs.Lined.{one_over, all_over}
use Rattle.node_worker.proofs.worker.fn.work_in_threads.scope.Goals as goal

pub loop-kept-init : goal.loop-kept-init
loop-kept-init g c =
    let R : List (KeptView × g.row.C.Denot) → Type 0 = λ ps. All (λ p. IsTrue p.0.honest) ps in
    let rest = c.into_iter-kept-iterator.result.rest.items in (
      ap (λ hs. map (λ h. made_as h.promise.kept.value) hs ++ map (λ p. made_as p.0) rest) c.in_ok-handles.ensures.items,
      ap (λ hs. map (λ h. g.C.Carrier.given h.promise.carrier.value) hs ++ map (λ p. g.C.Carrier.given p.1) rest) c.in_ok-handles.ensures.items,
      c.in_ok-kepts.ensures.items,
      c.in_ok-carriers.ensures.items,
      (λ trusted. subst R (sym c.into_iter-kept-iterator.ensures.into_iter_gives.0) (c.requires trusted)),
      ap (λ hs. map (λ h. g.C.Carrier.left h.promise.carrier.value) hs ++ map (λ p. g.C.Carrier.left p.1) rest) c.in_ok-handles.ensures.items,
    )

pub spawn_with-requires-clause-runs : goal.spawn_with-requires-clause-runs
spawn_with-requires-clause-runs g c =
    let R : List (KeptView × g.row.C.Denot) → Type 0 = λ ps. All (λ p. IsTrue p.0.honest) ps in
    λ lifetimes within trusted. All-head (λ p. IsTrue p.0.honest) (c.in-Some.kept, c.in-Some.carrier) c.next.new.self.rest.items (subst R c.in-Some.ensures.steps.0 (c.loop-kept.invariant.4 trusted))

pub loop-kept-preserved : goal.loop-kept-preserved
loop-kept-preserved g c =
    let was = c.loop-kept.invariant in
    let taken = c.in-Some.ensures.steps.0 in
    let R : List (KeptView × g.row.C.Denot) → Type 0 = λ ps. All (λ p. IsTrue p.0.honest) ps in (
      one_over (λ h. made_as h.promise.kept.value) (λ p. made_as p.0) c.loop-kept.handles.items _ c.loop-kept.kept-iterator.rest.items _ c.in-Ok.handle (c.in-Some.kept, c.in-Some.carrier) _
          c.in_ok-push.ensures.items taken (search rules) was.0,
      one_over (λ h. g.C.Carrier.given h.promise.carrier.value) (λ p. g.C.Carrier.given p.1) c.loop-kept.handles.items _ c.loop-kept.kept-iterator.rest.items _ c.in-Ok.handle (c.in-Some.kept, c.in-Some.carrier) _
          c.in_ok-push.ensures.items taken (search rules) was.1,
      was.2,
      was.3,
      (λ trusted. All-tail (λ p. IsTrue p.0.honest) (c.in-Some.kept, c.in-Some.carrier) c.next.new.self.rest.items (subst R taken (was.4 trusted))),
      one_over (λ h. g.C.Carrier.left h.promise.carrier.value) (λ p. g.C.Carrier.left p.1) c.loop-kept.handles.items _ c.loop-kept.kept-iterator.rest.items _ c.in-Ok.handle (c.in-Some.kept, c.in-Some.carrier) _
          c.in_ok-push.ensures.items taken (search rules) was.5,
    )

pub loop-handle-preserved : goal.loop-handle-preserved
loop-handle-preserved g c =
    let was = c.loop-handle.invariant in
    let taken = c.in-Some-handle.ensures.steps.0 in
    let P : List g.row.C.Denot → Type 0 = λ cs. All (λ x. g.C.Carrier.left x ≡ 0) cs in
    let Q : List KeptView → Type 0 = λ ks. All (λ k. IsTrue k.honest) ks in (
      one_over made_as (λ h. made_as h.promise.kept.value) c.loop-handle.kepts.items _ c.loop-handle.handle-iterator.rest.items _ c.join-kept.result.0 c.in-Some-handle.handle _
          c.in_ok-push-2.ensures.items taken c.join-kept.ensures.0 was.0,
      one_over g.C.Carrier.given (λ h. g.C.Carrier.given h.promise.carrier.value) c.loop-handle.carriers.items _ c.loop-handle.handle-iterator.rest.items _ c.join-kept.result.1 c.in-Some-handle.handle _
          c.in_ok-push-3.ensures.items taken c.join-kept.ensures.3 was.1,
      subst P (sym c.in_ok-push-3.ensures.items) (All-push (λ x. g.C.Carrier.left x ≡ 0) c.loop-handle.carriers.items c.join-kept.result.1 was.2 c.join-kept.ensures.2),
      (λ trusted. subst Q (sym c.in_ok-push-2.ensures.items) (All-push (λ k. IsTrue k.honest) c.loop-handle.kepts.items c.join-kept.result.0 (was.3 trusted) (c.join-kept.ensures.1 trusted))),
      one_over (λ k. k.turns) (λ h. g.C.Carrier.left h.promise.carrier.value) c.loop-handle.kepts.items _ c.loop-handle.handle-iterator.rest.items _ c.join-kept.result.0 c.in-Some-handle.handle _
          c.in_ok-push-2.ensures.items taken c.join-kept.ensures.4 was.4,
    )

pub returns : goal.returns
returns g c =
    let over = nil_from_length c.loop-kept.kept-iterator.rest.items (omega (arith, c.in-None.ensures.steps.0, c.loop-kept.kept-iterator.rest.ok.0)) in
    let begun = c.into_iter-kept-iterator.ensures.into_iter_gives.0 in
    let over_there = nil_from_length c.loop-handle.handle-iterator.rest.items (omega (arith, c.in-None-handle.ensures.steps.0, c.loop-handle.handle-iterator.rest.ok.0)) in
    let begun_there = c.into_iter-handle-iterator.ensures.into_iter_gives.0 in
    let spawned : map (λ h. made_as h.promise.kept.value) c.loop-kept.handles.items ≡ map (λ p. made_as p.0) c.captures.pairs.items =
    all_over (λ h. made_as h.promise.kept.value) (λ p. made_as p.0) c.loop-kept.handles.items c.loop-kept.kept-iterator.rest.items _ over c.loop-kept.invariant.0
    ∙ ap (λ ps. map (λ p. made_as p.0) ps) begun in
    let joined : map made_as c.loop-handle.kepts.items ≡ map (λ h. made_as h.promise.kept.value) c.loop-kept.handles.items =
    all_over made_as (λ h. made_as h.promise.kept.value) c.loop-handle.kepts.items c.loop-handle.handle-iterator.rest.items _ over_there c.loop-handle.invariant.0
    ∙ ap (λ hs. map (λ h. made_as h.promise.kept.value) hs) begun_there in
    let lent : map (λ h. g.C.Carrier.given h.promise.carrier.value) c.loop-kept.handles.items ≡ map (λ p. g.C.Carrier.given p.1) c.captures.pairs.items =
    all_over (λ h. g.C.Carrier.given h.promise.carrier.value) (λ p. g.C.Carrier.given p.1) c.loop-kept.handles.items c.loop-kept.kept-iterator.rest.items _ over c.loop-kept.invariant.1
    ∙ ap (λ ps. map (λ p. g.C.Carrier.given p.1) ps) begun in
    let back : map g.C.Carrier.given c.loop-handle.carriers.items ≡ map (λ h. g.C.Carrier.given h.promise.carrier.value) c.loop-kept.handles.items =
    all_over g.C.Carrier.given (λ h. g.C.Carrier.given h.promise.carrier.value) c.loop-handle.carriers.items c.loop-handle.handle-iterator.rest.items _ over_there c.loop-handle.invariant.1
    ∙ ap (λ hs. map (λ h. g.C.Carrier.given h.promise.carrier.value) hs) begun_there in
    let handed : map (λ h. g.C.Carrier.left h.promise.carrier.value) c.loop-kept.handles.items ≡ map (λ p. g.C.Carrier.left p.1) c.captures.pairs.items =
    all_over (λ h. g.C.Carrier.left h.promise.carrier.value) (λ p. g.C.Carrier.left p.1) c.loop-kept.handles.items c.loop-kept.kept-iterator.rest.items _ over c.loop-kept.invariant.5
    ∙ ap (λ ps. map (λ p. g.C.Carrier.left p.1) ps) begun in
    let counted : map (λ (k : KeptView). k.turns) c.loop-handle.kepts.items ≡ map (λ h. g.C.Carrier.left h.promise.carrier.value) c.loop-kept.handles.items =
    all_over (λ (k : KeptView). k.turns) (λ h. g.C.Carrier.left h.promise.carrier.value) c.loop-handle.kepts.items c.loop-handle.handle-iterator.rest.items _ over_there c.loop-handle.invariant.4
    ∙ ap (λ hs. map (λ h. g.C.Carrier.left h.promise.carrier.value) hs) begun_there in
    record { same = joined ∙ spawned; trusted = c.loop-handle.invariant.3; left = c.loop-handle.invariant.2; given = back ∙ lent; turns = counted ∙ handed }
