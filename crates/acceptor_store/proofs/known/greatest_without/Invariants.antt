use Rattle.std.proofs.Common.{◌≡◌, drop}
use Rattle.acceptor_store.proofs.Words.{number_of, greatest_beside}
use Rattle.acceptor_store.proofs.known.greatest_without.Given as goal

abbrev pub invariant-loop-vote : goal.invariant-loop-vote
invariant-loop-vote l = greatest_beside l.fn.place (number_of l.most) (drop l.vote-index l.fn.votes) ≡ greatest_beside l.fn.place (number_of l.fn.ballot) l.fn.votes
