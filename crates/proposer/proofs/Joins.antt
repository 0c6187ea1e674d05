-- Joining votes, and the places at which they stand.
use Rattle.std.proofs.Common.{◌≡◌, ℕ, suc, ◌+◌, ◌≤◌, ◌<◌, max, nat_lt, Bool, true, false, cond, List, [], ◌∷◌, ap, ◌∙◌}
use Rattle.std.proofs.Common.{arith, Option, Some, None}
use Rattle.std.specs.Ordering.{nat_cmp}
use Rattle.std.proofs.lemmas.Bool.{le-leb, lt-leb}
use Rattle.std.proofs.lemmas.Map.Views.{All-keys-insert_entry}
use Rattle.ballots.specs.Limits.{most_places}
use Rattle.ballots.specs.Rows.{at, put}
use Rattle.ballots.specs.declared.letters.Cast.{Cast}
use Rattle.proposer.specs.Bounds.{AreInLog, in_log}
use Rattle.proposer.specs.Joining.{join, join_one, place_after}

-- the place after the greatest may take one more place first
place_after_max : (q p : ℕ) (votes : List (ℕ × Cast)) → place_after (max q (p + 1)) votes ≡ max (p + 1) (place_after q votes)
place_after_max q p [] = omega arith
place_after_max q p (vote ∷ votes) = omega (arith, place_after_max q p votes)

pub place_after_step : (q p : ℕ) (cast : Cast) (votes : List (ℕ × Cast)) (m : ℕ) → place_after q ((p, cast) ∷ votes) ≡ m → place_after (max q (p + 1)) votes ≡ m
place_after_step q p cast votes m is = place_after_max q p votes ∙ is

pub rest_in_log : (vote : ℕ × Cast) (votes : List (ℕ × Cast)) → AreInLog (vote ∷ votes) → AreInLog votes
rest_in_log vote votes are = λ k d below. are (suc k) d (omega arith)

pub join_one_in_log : (rows : List (ℕ × Cast)) (p : ℕ) (cast : Cast) (was : Option Cast) → AreInLog rows → p ≤ most_places → AreInLog (join_one rows p cast was)
join_one_in_log rows p cast None are is = All-keys-insert_entry nat_cmp p cast (λ place. place ≤ most_places) rows are is
join_one_in_log rows p cast (Some other) are is = by_test (nat_lt other.ballot cast.ballot)
  where
    by_test : (b : Bool) → AreInLog (cond b (put rows p cast) rows)
    by_test true = All-keys-insert_entry nat_cmp p cast (λ place. place ≤ most_places) rows are is
    by_test false = are

-- one more vote that isn't beyond the log
pub joins : (rows : List (ℕ × Cast)) (vote : ℕ × Cast) (votes : List (ℕ × Cast)) → vote.0 ≤ most_places → join rows (in_log (vote ∷ votes)) ≡ join (join_one rows vote.0 vote.1 (at rows vote.0)) (in_log votes)
joins rows vote votes is = ap (λ b. join rows (cond b (vote ∷ in_log votes) (in_log votes))) (le-leb vote.0 most_places is)

-- and one that is
pub passes : (rows : List (ℕ × Cast)) (vote : ℕ × Cast) (votes : List (ℕ × Cast)) → most_places < vote.0 → join rows (in_log (vote ∷ votes)) ≡ join rows (in_log votes)
passes rows vote votes is = ap (λ b. join rows (cond b (vote ∷ in_log votes) (in_log votes))) (lt-leb vote.0 most_places is)
