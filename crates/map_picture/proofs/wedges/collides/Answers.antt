use Rattle.std.proofs.Common.{◌≡◌, true, sym, ◌∙◌, arith, subst}
use Rattle.std.proofs.lemmas.List.Folds.{list_any_at}
use Rattle.map_picture.specs.declared.sent.Sent.{Sent}
use Rattle.map_picture.specs.Wedges.{meets}
use Rattle.map_picture.proofs.Wedged.{no_collision}
use Rattle.map_picture.proofs.wedges.collides.Goals as goal

pub returns-then-meets : goal.returns-then-meets
returns-then-meets c =
    let one : Sent = c.index-sent-k.result in
    let it_does = subst (λ (u : Sent). meets c.args.t.now u ≡ true) c.index-sent-k.is (sym c.meets.ensures ∙ c.if-meets.true) in
    sym (list_any_at (meets c.args.t.now) c.args.sent.now c.loop-k.k one (omega (arith, c.loop-k-test.true, c.count_before-end.ensures.bound)) it_does)

pub returns : goal.returns
returns c =
    sym (no_collision c.args.sent.now c.args.t.now c.count_before-first.result c.count_before-end.result c.loop-k.k (rw c.get.ensures.same at c.count_before-first.ensures) (rw c.get-2.ensures.same at c.count_before-end.ensures)
    (omega (arith, c.loop-k-test.false)) c.loop-k.invariant)
