-- Minislots of one MAP that are free or held, and the first fit among them.
use Rattle.std.specs.Prelude.{ℕ, ◌+◌, Bool, true, false, ◌&&◌, if◌then◌else◌, nat_lt, nat_le, List, length, map, Option}
use Rattle.std.specs.Prelude.{None, is_none}
use Rattle.std.specs.List.{find, filter, list_all, range_with_len}
use Rattle.minislot_time.specs.Extent.{Extent}
use Rattle.grant_machine_parts.specs.declared.placing.TheConstants.{MOST_PLACEMENTS}
-- what a placement serves (the due time of this number, or the request that was sent at this time), and a placement:
-- minislots that are given to a SID, so many from an offset on
pub use Rattle.grant_machine_parts.specs.declared.placing.Cause.{Cause}
pub use Rattle.grant_machine_parts.specs.declared.placing.Cause.TheVariants.{Window, Sent}
pub use Rattle.grant_machine_parts.specs.declared.placing.Placement.{Placement}

-- what is served is a due time
abbrev pub is_window : Cause → Bool
is_window (Window index) = true
is_window (Sent sent) = false

-- the placement holds the minislot at this offset
abbrev pub holds : ℕ → Placement → Bool
holds x p = nat_le p.offset x && nat_lt x (p.offset + p.size)

-- which placement holds it
abbrev pub holder : List Placement → ℕ → Option Placement
holder ps x = find (holds x) ps

abbrev pub is_free : List Placement → ℕ → Bool
is_free ps x = is_none (holder ps x)

-- how many minislots of a MAP are free
abbrev pub free_minislots : Extent → List Placement → ℕ
free_minislots span ps = length (filter (is_free ps) (range_with_len 0 span.len))

-- the minislots of a MAP in order, each free or held by a placement
abbrev pub cells : Extent → List Placement → List (Option Placement)
cells span ps = map (holder ps) (range_with_len 0 span.len)

-- n minislots from offset x on are free and end within the MAP and by a last one, and the first of them lies from lo to
-- hi
abbrev pub fits_at : Extent → List Placement → (n lo hi last x : ℕ) → Bool
fits_at span ps n lo hi last x =
    nat_le lo (span.start + x) && nat_le (span.start + x) hi && nat_le (span.start + x + n) (last + 1) && nat_le (x + n) span.len
    && list_all (is_free ps) (range_with_len x n)

-- a MAP has at most so many placements
abbrev pub most_placements : ℕ
most_placements = MOST_PLACEMENTS

-- the least offset where n minislots fit that begin from lo to hi and end by the last one; none once there are 60
-- placements
abbrev pub first_fit : Extent → List Placement → (n lo hi last : ℕ) → Option ℕ
first_fit span ps n lo hi last =
    if nat_lt (length ps) most_placements then find (fits_at span ps n lo hi last) (range_with_len 0 span.len) else None
