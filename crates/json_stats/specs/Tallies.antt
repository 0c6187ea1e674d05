-- Tallies as JSON.
use Rattle.std.specs.Prelude.{ℕ, ◌/◌, ◌%◌, ◌^◌, ◌==◌, if◌then◌else◌, codes}
use Rattle.serde_json.specs.Data.{Data, Members, object, no_members}
use Rattle.json_outputs.specs.Fields.{with_number, with_text, with_time}
use Rattle.map_stats.specs.declared.tally.Tally.{Tally}

-- the MAPs of a channel
abbrev pub map_data : ℕ → Tally → Data
map_data key t = object
    (with_number (codes "minislots") t.minislots (with_number (codes "maps") t.count (with_number (codes "channel") key
    (with_text (codes "row") (codes "channel") no_members))))

-- the intervals of a use on a channel, of which all MAPs have so many minislots
abbrev pub use_data : ℕ → Tally → ℕ → Data
use_data key t whole = object
    (with_number (codes "of") whole (with_number (codes "minislots") t.minislots (with_number (codes "intervals") t.count
    (with_number (codes "iuc") (key % 16) (with_number (codes "channel") (key / 16) (with_text (codes "row") (codes "use") no_members))))))

-- which lease of a SID, where it isn't the first one: that with this first minislot
abbrev pub with_first : (since : ℕ) → Members → Members
with_first since ms = if since == 0 then ms else with_time (codes "first") since ms

-- the intervals of a use that are one SID's, in one of its leases
abbrev pub sid_data : ℕ → Tally → Data
sid_data key t = object
    (with_number (codes "minislots") t.minislots (with_number (codes "grants") t.count (with_number (codes "iuc") (key % 16)
    (with_first (key / 2 ^ 4 % 2 ^ 64) (with_number (codes "sid") (key / 2 ^ 68 % 2 ^ 14) (with_number (codes "channel") (key / 2 ^ 82)
    (with_text (codes "row") (codes "sid") no_members)))))))
