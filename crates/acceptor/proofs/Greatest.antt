-- The greatest ballot of some votes.
use Rattle.std.proofs.Common.{◌≡◌, inl, inr, ℕ, ◌≤◌, max, List, [], ◌∷◌, ap, ◌∙◌, arith}
use Rattle.ballots.specs.declared.letters.Cast.{Cast}
use Rattle.ballots.specs.Rows.{at, put}
use Rattle.ballots.proofs.Callers.{in_order, put_before, put_here, put_after, at_before, at_here, at_after}
use Rattle.acceptor.specs.Content.{greatest}
use Rattle.acceptor.specs.Kept.{ballot_in}

-- the greatest may take one more ballot first
pub greatest_max : (m b : ℕ) (votes : List (ℕ × Cast)) → greatest (max m b) votes ≡ max b (greatest m votes)
greatest_max m b [] = omega arith
greatest_max m b (vote ∷ votes) = omega (arith, greatest_max m b votes)

-- the row and the votes apart
pub greatest_apart : (m : ℕ) (votes : List (ℕ × Cast)) → greatest m votes ≡ max m (greatest 0 votes)
greatest_apart m [] = omega arith
greatest_apart m (vote ∷ votes) = omega (arith, greatest_apart m votes)

-- no vote is above the greatest
vote_below : (m p : ℕ) (votes : List (ℕ × Cast)) → ballot_in (at votes p) ≤ greatest m votes
vote_below m p [] = omega arith
vote_below m p (vote ∷ votes) = elim (in_order p vote.0) [
  | inl lt ↦ omega (arith, ap ballot_in (at_before vote.0 vote.1 votes p lt), vote_below m p votes)
  | inr (inl is) ↦ omega (arith, ap ballot_in (at_here vote.0 vote.1 votes p is))
  | inr (inr gt) ↦ omega (arith, ap ballot_in (at_after vote.0 vote.1 votes p gt), vote_below m p votes)
]

-- the greatest, before and after a vote is put, by the ballot at its place and what the others have
abbrev pub Replaced : ℕ → List (ℕ × Cast) → ℕ → Cast → Type 0
Replaced m votes p cast = (rest : ℕ) × (greatest m votes ≡ max (ballot_in (at votes p)) rest) × (greatest m (put votes p cast) ≡ max cast.ballot rest)

pub replaced : (m : ℕ) (votes : List (ℕ × Cast)) (p : ℕ) (cast : Cast) → Replaced m votes p cast
replaced m [] p cast = (m, omega arith, omega arith)
replaced m (vote ∷ votes) p cast = elim (in_order p vote.0) [
  | inl lt ↦ (greatest m (vote ∷ votes), omega (arith, vote_below m p (vote ∷ votes)), ap (greatest m) (put_before vote.0 vote.1 votes p cast lt))
  | inr (inl is) ↦ (greatest m votes, omega (arith, ap ballot_in (at_here vote.0 vote.1 votes p is)), ap (greatest m) (put_here vote.0 vote.1 votes p cast is))
  | inr (inr gt) ↦ let below = replaced m votes p cast in (max vote.1.ballot below.0, omega (arith, below.1, ap ballot_in (at_after vote.0 vote.1 votes p gt)), ap (greatest m) (put_after vote.0 vote.1 votes p cast gt) ∙ omega (arith, below.2))
]
