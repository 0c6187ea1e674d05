-- A MAP while it is filled, and what is known of what is placed in it.
use Rattle.std.specs.Prelude.{◌≡◌, ◌⊎◌, ℕ, ◌+◌, ◌<◌, ◌≤◌, Bool, true, false, List, [], ◌∷◌, ◌++◌, Some}
use Rattle.std.specs.List.{AllByRecursion}
use Rattle.minislot_time.specs.Extent.{Extent}
use Rattle.map_body.specs.Iucs as iucs
use Rattle.flow_state.specs.declared.channel.Phy.{Phy}
use Rattle.flow_state.specs.declared.channel.Phy.TheVariants.{Tdma, Advanced}
use Rattle.flow_state.specs.Limits.{last_time, longest_interval}
use Rattle.grant_machine_parts.specs.Placing.{Cause, Window, Sent, Placement, holds, holder}
use Rattle.grant_machine_parts.specs.Cutting.{Periodic, Verdict, Missed, Placed, Kept, placement_at}

-- a MAP in part: its minislots, and the placements so far
pub record PartMap : Type 0 where
  pub span : Extent
  pub placements : List Placement

-- a placement's use is no expansion element's
abbrev pub has_use : Placement → Type 0
has_use p = p.iuc < iucs.expansion

-- each placement is the holder of what it holds: no minislot is in two
abbrev pub AreApart : List Placement → Type 0
AreApart ps = AllByRecursion (λ p. (x : ℕ) → holds x p ≡ true → holder ps x ≡ Some p) ps

-- next due times are at most this
abbrev pub last_due : ℕ
last_due = last_time + longest_interval

-- due times follow one another within the limits
pub record IsTimely (p : Periodic) : Type 0 where
  pub more : 1 ≤ p.interval
  pub most : p.interval ≤ longest_interval
  pub use_of : p.iuc < iucs.expansion

-- the flow goes on to its next due time
abbrev pub goes_on : Verdict → Bool
goes_on Missed = true
goes_on (Placed x) = true
goes_on Kept = false

-- the placements after a due time
abbrev pub placements_on : Verdict → List Placement → Periodic → ℕ → List Placement
placements_on Missed ps p i = ps
placements_on (Placed x) ps p i = ps ++ placement_at p i x ∷ []
placements_on Kept ps p i = ps

-- the use of a grant to a request on each kind of channel: short or long
abbrev pub IsRequestedUse : Phy → ℕ → Type 0
IsRequestedUse Tdma iuc = (iuc ≡ iucs.short_data_grant) ⊎ (iuc ≡ iucs.long_data_grant)
IsRequestedUse Advanced iuc = (iuc ≡ iucs.advanced_short_data_grant) ⊎ (iuc ≡ iucs.advanced_long_data_grant)

-- the use of an unsolicited grant on each kind of channel
abbrev pub IsUnsolicitedUse : Phy → ℕ → Type 0
IsUnsolicitedUse Tdma iuc = IsRequestedUse Tdma iuc
IsUnsolicitedUse Advanced iuc = iuc ≡ iucs.advanced_unsolicited_grant

-- the use of an interval of maintenance, on each kind of channel: station's, or initial
abbrev pub IsMaintenanceUse : ℕ → Type 0
IsMaintenanceUse iuc = (iuc ≡ iucs.station_maintenance) ⊎ (iuc ≡ iucs.initial_maintenance)

-- the use of what comes at a due time: a poll's, an interval of maintenance's, or an unsolicited grant's
abbrev pub IsDueUse : Phy → ℕ → Type 0
IsDueUse phy iuc = (iuc ≡ iucs.request) ⊎ IsMaintenanceUse iuc ⊎ IsUnsolicitedUse phy iuc

-- the use of what serves this, on a channel of this kind
abbrev pub IsUseFor : Phy → Cause → ℕ → Type 0
IsUseFor phy (Sent time) iuc = IsRequestedUse phy iuc
IsUseFor phy (Window index) iuc = IsDueUse phy iuc
