use Rattle.std.proofs.Common.{ℕ, ◌∷◌, ◌+◌, drop, sym, ap, ◌∙◌}
use Rattle.acceptor_store.proofs.Words.{at_drop_more, number_of, Cast, greatest_beside}
use Rattle.acceptor_store.proofs.Beside.{beside_next}
use Rattle.acceptor_store.proofs.known.greatest_without.Goals as goal

pub loop-vote-preserved : goal.loop-vote-preserved
loop-vote-preserved c =
    let x = c.vote-item.result in
    let p = c.args.place in
    let rest = drop (c.loop-vote.vote-index + 1) c.args.votes.now in
    let m = number_of c.loop-vote.most in
    let next = at_drop_more (greatest_beside p m) c.args.votes.now c.loop-vote.vote-index x c.loop-vote-test.true in
    let most = c.higher_beside-most.ensures in
    ap (λ n. greatest_beside p n rest) most ∙ (beside_next p m x rest ∙ (ap (λ (v : ℕ × Cast). greatest_beside p m (v ∷ rest)) c.vote-item.is ∙ (sym next ∙ c.loop-vote.invariant)))
