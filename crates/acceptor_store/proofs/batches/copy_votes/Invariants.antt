use Rattle.std.proofs.Common.{◌≡◌, [], take}
use Rattle.acceptor_store.proofs.Words.{AreRowsFrom}
use Rattle.acceptor_store.proofs.batches.copy_votes.Given as goal

abbrev pub invariant-loop-vote : goal.invariant-loop-vote
invariant-loop-vote l = AreRowsFrom 1 l.votes → l.fn.records.votes ≡ [] → l.records ≡ record l.fn.records { votes = take l.vote-index l.votes }
