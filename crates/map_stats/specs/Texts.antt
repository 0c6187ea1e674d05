-- Tallies as text. Numbers are decimal.
use Rattle.std.specs.Prelude.{ℕ, ◌/◌, ◌%◌, ◌^◌, ◌==◌, if◌then◌else◌, List, [], ◌++◌, codes, decimal}
use Rattle.map_stats.specs.declared.tally.Tally.{Tally}

-- the MAPs of a channel
abbrev pub map_text : ℕ → Tally → List ℕ
map_text key t = codes "channel " ++ (decimal key ++ (codes " maps " ++ (decimal t.count ++ (codes " minislots " ++ decimal t.minislots))))

-- the intervals of a use on a channel, of which all MAPs have so many minislots
abbrev pub use_text : ℕ → Tally → ℕ → List ℕ
use_text key t whole =
    codes "channel " ++ (decimal (key / 16) ++ (codes " iuc " ++ (decimal (key % 16) ++ (codes " intervals " ++ (decimal t.count
    ++ (codes " minislots " ++ (decimal t.minislots ++ (codes " of " ++ decimal whole))))))))

-- which lease of a SID, where it isn't the first one: that with this first minislot
abbrev pub first_words : (since : ℕ) → List ℕ
first_words since = if since == 0 then [] else codes " first " ++ decimal since

-- the intervals of a use that are one SID's, in one of its leases
abbrev pub sid_text : ℕ → Tally → List ℕ
sid_text key t =
    codes "channel " ++ (decimal (key / 2 ^ 82) ++ (codes " sid " ++ (decimal (key / 2 ^ 68 % 2 ^ 14) ++ (first_words (key / 2 ^ 4 % 2 ^ 64)
    ++ (codes " iuc " ++ (decimal (key % 16) ++ (codes " grants " ++ (decimal t.count ++ (codes " minislots " ++ decimal t.minislots)))))))))
