use Rattle.std.proofs.Common.{◌≡◌, ℕ, ◌+◌, List, ◌∷◌, drop, sym, ap, subst, ◌∙◌, arith}
use Rattle.acceptor_store_parts.proofs.Words.{at_drop_more, at_drop_all, AreRowsFrom}
use Rattle.acceptor_store_parts.proofs.learned.are_rising.Goals as goal

pub loop-row-init : goal.loop-row-init
loop-row-init c = (λ all. all, λ all. all)

pub loop-row-preserved : goal.loop-row-preserved
loop-row-preserved c =
    let x = c.row-item.result in
    let i = c.loop-row.row-index in
    let learned = c.args.learned.now in
    let next : drop i learned ≡ x ∷ drop (i + 1) learned = at_drop_more (λ xs. xs) learned i x c.loop-row-test.true ∙ ap (λ (v : ℕ × List ℕ). v ∷ drop (i + 1) learned) (sym c.row-item.is) in (
      λ rest. c.loop-row.invariant.0 (subst (AreRowsFrom c.loop-row.from) (sym next) (omega arith, omega arith, subst (λ n. AreRowsFrom (n + 1) (drop (i + 1) learned)) c.number-place.ensures.same rest)),
      λ all. subst (λ n. AreRowsFrom (n + 1) (drop (i + 1) learned)) (sym c.number-place.ensures.same) ((subst (AreRowsFrom c.loop-row.from) next (c.loop-row.invariant.1 all)).2),
    )

pub returns-then-place-from-clause-no : goal.returns-then-place-from-clause-no
returns-then-place-from-clause-no c = λ _ all.
    let x = c.row-item.result in
    let i = c.loop-row.row-index in
    let learned = c.args.learned.now in
    let next : drop i learned ≡ x ∷ drop (i + 1) learned = at_drop_more (λ xs. xs) learned i x c.loop-row-test.true ∙ ap (λ (v : ℕ × List ℕ). v ∷ drop (i + 1) learned) (sym c.row-item.is) in
    let here = subst (AreRowsFrom c.loop-row.from) next (c.loop-row.invariant.1 all) in
    omega (arith, here.0, here.1)

pub returns-clause-yes : goal.returns-clause-yes
returns-clause-yes c = λ _. c.loop-row.invariant.0 (subst (AreRowsFrom c.loop-row.from) (sym (at_drop_all (λ (xs : List (ℕ × List ℕ)). xs) c.args.learned.now c.loop-row.row-index (omega (arith, c.loop-row-test.false)))) tt)
