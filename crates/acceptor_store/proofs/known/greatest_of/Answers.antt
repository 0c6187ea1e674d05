use Rattle.std.proofs.Common.{◌≡◌, ℕ, ◌+◌, max, drop, get_or, sym, ap, ◌∙◌}
use Rattle.acceptor_store.proofs.Words.{at_drop_more, number_of, Cast, greatest, greatest_max}
use Rattle.acceptor_store.proofs.known.greatest_of.Goals as goal

pub loop-vote-preserved : goal.loop-vote-preserved
loop-vote-preserved c =
    let x = c.vote-item.result in
    let rest = drop (c.loop-vote.vote-index + 1) c.args.votes.now in
    let m = number_of c.loop-vote.most in
    let next = at_drop_more (greatest m) c.args.votes.now c.loop-vote.vote-index x c.loop-vote-test.true in
    let ballot : x.1.ballot ≡ (get_or c.args.votes.now c.loop-vote.vote-index x).1.ballot = ap (λ (v : ℕ × Cast). v.1.ballot) c.vote-item.is in
    ap (λ n. greatest n rest) c.higher-most.ensures ∙ (greatest_max m x.1.ballot rest ∙ (ap (λ b. max b (greatest m rest)) ballot ∙ (sym next ∙ c.loop-vote.invariant)))
