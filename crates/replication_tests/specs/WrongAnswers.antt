-- Answers that an acceptor may not give, and a ballot that isn't the next one.
use Rattle.std.specs.Prelude.{◌≡◌, ◌≢◌, ℕ, ◌<◌, ◌≤◌, List, Option, None}
use Rattle.ballots.specs.declared.letters.Cast.{Cast}
use Rattle.ballots.specs.Ballots.{IsLeastAbove}
use Rattle.ballots.specs.Rows.{at}
use Rattle.acceptor.specs.Answers.{Accepts, Prepares}
use Rattle.acceptor.specs.Content.{Content, Write, promised}
use Rattle.acceptor.specs.declared.acceptor.Prepared.TheVariants.{Promised}
use Rattle.acceptor.specs.declared.acceptor.Accepted.TheVariants.{Voted, Higher as HigherVote}

-- no vote of a ballot below the promised one
abbrev pub NoVoteBelow : Type 0
NoVoteBelow =
    (c : Content) (b p : ℕ) (v told : List ℕ) (write : Option Write)
    → b < promised c → Accepts c b p v (Voted told) write → ⊥

-- no promise of a ballot up to the promised one
abbrev pub NoPromiseUpTo : Type 0
NoPromiseUpTo =
    (c : Content) (b q : ℕ) (votes : List (ℕ × Cast)) (write : Option Write)
    → b ≤ promised c → Prepares c b q (Promised votes) write → ⊥

-- what is told as higher is the promised ballot
abbrev pub HigherIsThePromise : Type 0
HigherIsThePromise =
    (c : Content) (b p other : ℕ) (v : List ℕ) (write : Option Write)
    → other ≢ promised c → Accepts c b p v (HigherVote other) write → ⊥

-- no promise without its write, and no vote where the place has none
abbrev pub AnswersAreWritten : Type 0
AnswersAreWritten =
    (c : Content) (b p : ℕ) (v told : List ℕ) (votes : List (ℕ × Cast))
    → (Prepares c b p (Promised votes) None → ⊥) × (at c.votes p ≡ None → Accepts c b p v (Voted told) None → ⊥)

-- the least ballot above another isn't that one, nor one below it
abbrev pub NextBallotIsAbove : Type 0
NextBallotIsAbove = (limit node b : ℕ) → b ≤ limit → IsLeastAbove limit node b → ⊥
