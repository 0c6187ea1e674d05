-- What an acceptor answers and writes, by cases (Lamport, Paxos Made Simple, section 2.2).
use Rattle.std.specs.Prelude.{◌≡◌, ◌⊎◌, ℕ, ◌<◌, ◌≤◌, List, Option, Some, None}
use Rattle.ballots.specs.declared.letters.Cast.{Cast}
use Rattle.ballots.specs.Rows.{at, rows_from}
use Rattle.acceptor.specs.Content.{Content, Write, promised, after_write}
use Rattle.acceptor.specs.Content.Write.{Promises, Votes}
use Rattle.acceptor.specs.Found.{Findable, HoldsEither}
use Rattle.acceptor.specs.declared.acceptor.Prepared.{Prepared}
use Rattle.acceptor.specs.declared.acceptor.Prepared.TheVariants.{Promised, Higher}
use Rattle.acceptor.specs.declared.acceptor.Accepted.{Accepted}
use Rattle.acceptor.specs.declared.acceptor.Accepted.TheVariants.{Voted, Higher as HigherVote}

-- a ballot above the promised one is promised, with the votes from the place on, and else the promised one is told
abbrev pub Prepares : Content → ℕ → ℕ → Prepared → Option Write → Type 0
Prepares c b q (Promised votes) write = (promised c < b) × (votes ≡ rows_from c.votes q) × (write ≡ Some (Promises b))
Prepares c b q (Higher other) write = (b ≤ promised c) × (other ≡ promised c) × (write ≡ None)

-- the vote is of ballot b
abbrev pub IsOfBallot : Option Cast → ℕ → Type 0
IsOfBallot None b = ⊥
IsOfBallot (Some cast) b = cast.ballot ≡ b

-- a ballot that isn't below the promised one gets a vote, where the place has none of that ballot
abbrev pub IsNewVote : Content → ℕ → ℕ → Type 0
IsNewVote c b p = (promised c ≤ b) × (IsOfBallot (at c.votes p) b → ⊥)

-- the vote of ballot b that the place has is told again, whatever value comes, and nothing is written
abbrev pub VotedBefore : Content → ℕ → ℕ → List ℕ → Option Write → Type 0
VotedBefore c b p told write = (promised c ≤ b) × (at c.votes p ≡ Some record { ballot = b; value = told }) × (write ≡ None)

-- the vote is new, for the value that came, and it is written
abbrev pub VotesNow : Content → ℕ → ℕ → List ℕ → List ℕ → Option Write → Type 0
VotesNow c b p v told write = IsNewVote c b p × (told ≡ v) × (write ≡ Some (Votes p record { ballot = b; value = v }))

-- a ballot that isn't below the promised one is answered with the place's vote of that ballot, and else the promised
-- one is told
abbrev pub Accepts : Content → ℕ → ℕ → List ℕ → Accepted → Option Write → Type 0
Accepts c b p v (Voted told) write = VotedBefore c b p told write ⊎ VotesNow c b p v told write
Accepts c b p v (HigherVote other) write = (b < promised c) × (other ≡ promised c) × (write ≡ None)

-- after a failure the content is the one from before, or, where a promise of b was due, perhaps the one with it
abbrev pub MayHavePromised : Content → ℕ → Findable → Type 0
MayHavePromised c b found = HoldsEither found c c ⊎ ((promised c < b) × HoldsEither found c (after_write c (Some (Promises b))))

-- after a failure the content is the one from before, or, where a vote was due, perhaps the one with it
abbrev pub MayHaveVoted : Content → ℕ → ℕ → List ℕ → Findable → Type 0
MayHaveVoted c b p v found = HoldsEither found c c ⊎ (IsNewVote c b p × HoldsEither found c (after_write c (Some (Votes p record { ballot = b; value = v }))))
