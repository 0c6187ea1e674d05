-- Tallies in tables by key, and what they are of.
use Rattle.std.specs.Prelude.{◌≡◌, ℕ, List, map, flat_map, fold}
use Rattle.std.specs.Ordering.{nat_cmp}
use Rattle.std.specs.BTreeMap.{get}
use Rattle.map_body.specs.declared.interval.Interval.{Interval}
use Rattle.plan_account.specs.declared.deed.Deed.{Deed}
use Rattle.map_stats.specs.declared.stats.Stats.{Stats}
use Rattle.map_stats.specs.Tallies.{tally_step, tally_at}
use Rattle.map_stats.specs.Given.{use_given, sid_given, maps_in, uses_in, sids_in, maps_of, uses_of, sids_of}

-- the tables hold the tallies of the MAPs among these deeds
pub record Holds (ds : List Deed) (s : Stats) : Type 0 where
  pub maps : (q : ℕ) → get nat_cmp s.maps q ≡ tally_at (maps_of ds) q
  pub uses : (q : ℕ) → get nat_cmp s.uses q ≡ tally_at (uses_of ds) q
  pub sids : (q : ℕ) → get nat_cmp s.sids q ≡ tally_at (sids_of ds) q

-- intervals of a channel are added, where SIDs have these leases
pub record AddsIntervals (since : ℕ → ℕ) (channel : ℕ) (found : List Interval) (old new : Stats) : Type 0 where
  pub uses : (q : ℕ) → get nat_cmp new.uses q ≡ fold (tally_step q) (get nat_cmp old.uses q) (map (use_given channel) found)
  pub sids : (q : ℕ) → get nat_cmp new.sids q ≡ fold (tally_step q) (get nat_cmp old.sids q) (flat_map (sid_given since channel) found)

-- a deed is added
pub record AddsDeed (since : ℕ → ℕ) (d : Deed) (old new : Stats) : Type 0 where
  pub maps : (q : ℕ) → get nat_cmp new.maps q ≡ fold (tally_step q) (get nat_cmp old.maps q) (maps_in d)
  pub uses : (q : ℕ) → get nat_cmp new.uses q ≡ fold (tally_step q) (get nat_cmp old.uses q) (uses_in d)
  pub sids : (q : ℕ) → get nat_cmp new.sids q ≡ fold (tally_step q) (get nat_cmp old.sids q) (sids_in since d)
