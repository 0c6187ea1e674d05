use Rattle.std.proofs.Common.{◌≡◌, ◌+◌, [], ◌∷◌, ◌++◌, drop, take, map, sym, ap, slice_index_or, subst, ◌∙◌, arith}
use Rattle.acceptor_store_parts.proofs.Words.{at_drop_more, take_more, AllByRecursion, Row, IsLearned, learned_shown}
use Rattle.acceptor_store_parts.proofs.Casts.{one_more, one_shown, shown_at}
use Rattle.acceptor_store_parts.proofs.learned.read_learned.Goals as goal

pub returns-in-Err-clause-wrong : goal.returns-in-Err-clause-wrong
returns-in-Err-clause-wrong c wrong learned all e =
    let x = c.row-item.result in
    let i = c.loop-row.row-index in
    let rows = c.args.rows.now in
    let next : drop i rows ≡ x ∷ drop (i + 1) rows = at_drop_more (λ xs. xs) rows i x c.loop-row-test.true ∙ ap (λ (r : Row). r ∷ drop (i + 1) rows) (sym c.row-item.is) in
    let it = shown_at IsLearned learned_shown learned i x (drop (i + 1) rows) all (ap (drop i) (sym e) ∙ next) in
    c.in-Err.ensures.wrong wrong it.0 it.1 it.2

pub loop-row-preserved : goal.loop-row-preserved
loop-row-preserved c =
    let x = c.row-item.result in
    let i = c.loop-row.row-index in
    let rows = c.args.rows.now in
    let before = c.loop-row.learned.items in
    let more = c.in_ok-push-in-Ok.ensures.items in
    let here : learned_shown c.in-Ok.value ≡ slice_index_or rows i x = sym c.in-Ok.ensures.ok ∙ c.row-item.is in
    let shown : map learned_shown (before ++ c.in-Ok.value ∷ []) ≡ take (i + 1) rows =
    one_shown IsLearned learned_shown before c.in-Ok.value ∙ ((λ j. c.loop-row.invariant.0 j ++ here j ∷ []) ∙ sym (take_more rows i x (omega (arith, c.loop-row-test.true)))) in
    (ap (map learned_shown) more ∙ shown, subst (AllByRecursion IsLearned) (sym more) (one_more IsLearned learned_shown before c.in-Ok.value c.loop-row.invariant.1 c.in-Ok.ensures.fits))
