use Rattle.std.proofs.Common.{◌≡◌, ◌+◌, [], ◌∷◌, ◌++◌, drop, take, map, sym, ap, slice_index_or, subst, ◌∙◌, arith}
use Rattle.acceptor_store_parts.proofs.Words.{at_drop_more, take_more, AllByRecursion, Row, IsCast, vote_shown}
use Rattle.acceptor_store_parts.proofs.Casts.{one_more, one_shown, shown_at}
use Rattle.acceptor_store_parts.proofs.reads.read_votes.Goals as goal

pub returns-in-Err-clause-wrong : goal.returns-in-Err-clause-wrong
returns-in-Err-clause-wrong c wrong votes all e =
    let x = c.row-item.result in
    let i = c.loop-row.row-index in
    let rows = c.args.rows.now in
    let next : drop i rows ≡ x ∷ drop (i + 1) rows = at_drop_more (λ xs. xs) rows i x c.loop-row-test.true ∙ ap (λ (r : Row). r ∷ drop (i + 1) rows) (sym c.row-item.is) in
    let it = shown_at IsCast vote_shown votes i x (drop (i + 1) rows) all (ap (drop i) (sym e) ∙ next) in
    c.in-Err.ensures.wrong wrong it.0 it.1 it.2

pub loop-row-preserved : goal.loop-row-preserved
loop-row-preserved c =
    let x = c.row-item.result in
    let i = c.loop-row.row-index in
    let rows = c.args.rows.now in
    let before = c.loop-row.votes.items in
    let more = c.in_ok-push-in-Ok.ensures.items in
    let here : vote_shown c.in-Ok.vote ≡ slice_index_or rows i x = sym c.in-Ok.ensures.ok ∙ c.row-item.is in
    let shown : map vote_shown (before ++ c.in-Ok.vote ∷ []) ≡ take (i + 1) rows =
    one_shown IsCast vote_shown before c.in-Ok.vote ∙ ((λ j. c.loop-row.invariant.0 j ++ here j ∷ []) ∙ sym (take_more rows i x (omega (arith, c.loop-row-test.true)))) in
    (ap (map vote_shown) more ∙ shown, subst (AllByRecursion IsCast) (sym more) (one_more IsCast vote_shown before c.in-Ok.vote c.loop-row.invariant.1 c.in-Ok.ensures.fits))
