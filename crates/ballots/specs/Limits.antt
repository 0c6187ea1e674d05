-- The limits of the log.
use Rattle.std.specs.Prelude.{ℕ, ◌≤◌, List, length}
use Rattle.ballots.specs.declared.places.TheConstants.{MOST_PLACES}
use Rattle.ballots.specs.declared.values.TheConstants.{LONGEST_VALUE}

-- the log's places are 1 to this
abbrev pub most_places : ℕ
most_places = MOST_PLACES

-- a value has at most so many bytes
abbrev pub longest_value : ℕ
longest_value = LONGEST_VALUE

-- p is a place of the log
abbrev pub IsPlace : ℕ → Type 0
IsPlace p = (1 ≤ p) × (p ≤ most_places)

-- these bytes are short enough for a value of the log
abbrev pub IsValue : List ℕ → Type 0
IsValue v = length v ≤ longest_value
