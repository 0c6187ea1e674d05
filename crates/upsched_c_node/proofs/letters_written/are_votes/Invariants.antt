use Rattle.std.proofs.Common.{take, All}
use Rattle.std.specs.Prelude.{IsSome}
use Rattle.upsched_c_node.specs.Letters.{vote_of}
use Rattle.upsched_c_node.proofs.letters_written.are_votes.Given as goal

abbrev pub invariant-loop-vote : goal.invariant-loop-vote
invariant-loop-vote l = All (λ v. IsSome (vote_of v)) (take l.vote-index l.votes)
