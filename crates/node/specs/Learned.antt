-- What a node has learned.
use Rattle.std.specs.Prelude.{◌≡◌, ◌≢◌, ℕ, ◌≤◌, List, Some, None}
use Rattle.ballots.specs.Rows.{at}
use Rattle.learner.specs.Tally.{Tally}

-- what was counted and learned, and the place up to which outputs were released
pub record Learned : Type 0 where
  pub tally : Tally
  pub cursor : ℕ

-- each value of the first rows stands at its place in the second
abbrev pub IsPart : List (ℕ × List ℕ) → List (ℕ × List ℕ) → Type 0
IsPart first second = (p : ℕ) (v : List ℕ) → at first p ≡ Some v → at second p ≡ Some v

-- something stands at each place from the first on, so many of them
abbrev pub AreLearned : List (ℕ × List ℕ) → ℕ → Type 0
AreLearned rows n = (p : ℕ) → 1 ≤ p → p ≤ n → at rows p ≢ None
