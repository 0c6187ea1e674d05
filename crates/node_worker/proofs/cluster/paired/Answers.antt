use Rattle.std.proofs.Common.{rules, All, IsTrue, List, arith, refl, subst, sym}
use Rattle.std.proofs.lemmas.List.{nil_from_length}
use Rattle.std.proofs.lemmas.List.Elements.{All-push, All-head, All-tail}
use Rattle.node_worker.specs.KeptView.{KeptView, made_as}
use Rattle.node_worker.proofs.Lined.{one_over, all_over}
use Rattle.node_worker.proofs.cluster.paired.Goals as goal

pub loop-kept-preserved-in-Continue-branch-2 : goal.loop-kept-preserved-in-Continue-branch-2
loop-kept-preserved-in-Continue-branch-2 g c =
    let was = c.loop-kept.invariant in
    let taken = c.in-Some.ensures.steps.0 in
    let P : List (KeptView × g.row.C.Denot) → Type 0 = λ ps. All (λ p. IsTrue p.0.honest) ps in
    let Q : List KeptView → Type 0 = λ ks. All (λ k. IsTrue k.honest) ks in (
      one_over (λ p. made_as p.0) made_as c.loop-kept.pairs.items _ c.loop-kept.kept-iterator.rest.items _ (c.in-Some.kept, c.in-Some-next.carrier) c.in-Some.kept _
          c.in_ok-push.ensures.items taken refl was.0,
      one_over (λ p. g.C.Carrier.given p.1) g.C.Carrier.given c.loop-kept.pairs.items _ c.loop-kept.rest.rest.items _ (c.in-Some.kept, c.in-Some-next.carrier) c.in-Some-next.carrier _
          c.in_ok-push.ensures.items c.in-Some-next.ensures.items refl was.1,
      search rules,
      λ trusted. (
        subst P (sym c.in_ok-push.ensures.items) (All-push (λ p. IsTrue p.0.honest) c.loop-kept.pairs.items (c.in-Some.kept, c.in-Some-next.carrier) (was.3 trusted).0
            (All-head (λ k. IsTrue k.honest) c.in-Some.kept c.next.new.self.rest.items (subst Q taken (was.3 trusted).1))),
        All-tail (λ k. IsTrue k.honest) c.in-Some.kept c.next.new.self.rest.items (subst Q taken (was.3 trusted).1),
      ),
      one_over (λ p. g.C.Carrier.left p.1) g.C.Carrier.left c.loop-kept.pairs.items _ c.loop-kept.rest.rest.items _ (c.in-Some.kept, c.in-Some-next.carrier) c.in-Some-next.carrier _
          c.in_ok-push.ensures.items c.in-Some-next.ensures.items refl was.4,
    )

pub returns-clause-given : goal.returns-clause-given
returns-clause-given g c =
    all_over (λ p. g.C.Carrier.given p.1) g.C.Carrier.given c.loop-kept.pairs.items c.loop-kept.rest.rest.items _
    (nil_from_length c.loop-kept.rest.rest.items (omega (arith, c.in-None.ensures.steps.0, c.loop-kept.kept-iterator.rest.ok.0, c.loop-kept.invariant.2))) c.loop-kept.invariant.1

pub returns-clause-trusted : goal.returns-clause-trusted
returns-clause-trusted g c = λ trusted. (c.loop-kept.invariant.3 trusted).0

pub returns-clause-left : goal.returns-clause-left
returns-clause-left g c =
    all_over (λ p. g.C.Carrier.left p.1) g.C.Carrier.left c.loop-kept.pairs.items c.loop-kept.rest.rest.items _
    (nil_from_length c.loop-kept.rest.rest.items (omega (arith, c.in-None.ensures.steps.0, c.loop-kept.kept-iterator.rest.ok.0, c.loop-kept.invariant.2))) c.loop-kept.invariant.4
