-- What is always true of a MAP while it is filled.
use Rattle.std.specs.Prelude.{◌+◌, ◌≤◌, ◌≡◌, true, length}
use Rattle.std.specs.List.{AllByRecursion}
use Rattle.flow_state.specs.Limits.{last_time, most_minislots}
use Rattle.grant_machine_parts.specs.declared.placing.Filling.TheInside.{Inside}
use Rattle.grant_machine_parts.specs.Placing.{most_placements, is_free}
use Rattle.grant_machine_parts.specs.Filling.{has_use, AreApart}
use Rattle.grant_machine_parts.specs.Gaps.{AreGaps}

-- the gaps are what no placement holds, sizes, times and uses are within their limits, and placements are apart where
-- it says so
pub record IsKept (a : Inside) : Type 0 where
  pub gaps : AreGaps (is_free a.placements.items) 0 a.len a.gaps.items
  pub short : a.len ≤ most_minislots
  pub early : a.start + a.len ≤ last_time
  pub few : length a.placements.items ≤ most_placements
  pub uses : AllByRecursion has_use a.placements.items
  pub apart : a.is_apart ≡ true → AreApart a.placements.items
