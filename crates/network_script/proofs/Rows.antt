-- Rows by place, and the greatest ballot of some votes.
use Rattle.std.proofs.Common.{◌≡◌, inl, inr, ℕ, ◌≤◌, List, [], ◌∷◌, ap, arith}
use Rattle.ballots.specs.Voting.{IsIn}
use Rattle.ballots.specs.declared.letters.Cast.{Cast}
pub use Rattle.ballots.proofs.Callers.{at_put_same, at_put_other, in_put, into_put, kept_put, at_in}
use Rattle.acceptor.specs.Content.{greatest}

pub in_greatest : (m : ℕ) (votes : List (ℕ × Cast)) (p : ℕ) (cast : Cast) → IsIn votes (p, cast) → cast.ballot ≤ greatest m votes
in_greatest m [] p cast here = absurd here
in_greatest m (vote ∷ votes) p cast (inl is) = let e : cast.ballot ≡ vote.1.ballot = ap (λ (r : ℕ × Cast). r.1.ballot) is in omega arith
in_greatest m (vote ∷ votes) p cast (inr there) = omega (arith, in_greatest m votes p cast there)
