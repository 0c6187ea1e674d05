use Rattle.std.proofs.Common.{◌≡◌, drop}
use Rattle.node.specs.Step.{are_votes}
use Rattle.node.proofs.heeded.are_votes.Given as goal

abbrev pub invariant-loop-vote : goal.invariant-loop-vote
invariant-loop-vote l = are_votes l.ballot l.least (drop l.vote-index l.votes) ≡ are_votes l.fn.ballot l.fn.place l.fn.votes
