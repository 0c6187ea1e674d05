-- Tallies by key: how many there were, and how many minislots they have together.
use Rattle.std.specs.Prelude.{◌≡◌, ℕ, ◌+◌, ◌==◌, if◌then◌else◌, List, fold, Option, Some, None}
use Rattle.std.specs.List.Sorted.{IsStrictlySortedBy}
use Rattle.std.specs.Ordering.{nat_cmp}
use Rattle.std.specs.Map.{lookup, keys_of}
use Rattle.std.specs.BTreeMap.{is_at}
use Rattle.map_stats.specs.declared.tally.Tally.{Tally}

-- with one of so many minislots more
abbrev pub more : Option Tally → ℕ → Tally
more None minislots = record { count = 1; minislots = minislots }
more (Some t) minislots = record { count = t.count + 1; minislots = t.minislots + minislots }

-- the tally at a key, with one pair of a key and minislots more
abbrev pub tally_step : ℕ → Option Tally → ℕ × ℕ → Option Tally
tally_step q t given = if given.0 == q then Some (more t given.1) else t

-- the tally of pairs at a key, if one has that key
abbrev pub tally_at : List (ℕ × ℕ) → ℕ → Option Tally
tally_at given q = fold (tally_step q) None given

-- the tallies of pairs at all of their keys, in the order of these
pub record AreTallies (given : List (ℕ × ℕ)) (rows : List (ℕ × Tally)) : Type 0 where
  pub in_order : IsStrictlySortedBy nat_cmp (keys_of rows)
  pub at : (q : ℕ) → lookup (is_at (nat_cmp q)) rows ≡ tally_at given q
