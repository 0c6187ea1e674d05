-- Where a request's grant is looked for first among placements.
use Rattle.std.specs.Prelude.{◌≡◌, ◌≢◌, ◌%◌, ℕ, true, List, length, slice_index}
use Rattle.std.specs.List.{AllByRecursion}
use Rattle.flow_state.specs.declared.flow.Waiting.{Waiting}
use Rattle.grant_machine_parts.specs.declared.waiting.Grants.{Grants}
use Rattle.grant_machine_parts.specs.Placing.{Placement}
use Rattle.grant_machine_parts.specs.Cutting.{is_grant_of}

-- each request that the placement grants has a number
abbrev pub IsNumbered : List ℕ → Placement → Type 0
IsNumbered numbers p = (w : Waiting) → is_grant_of w p ≡ true → slice_index numbers (w.sid % 256) ≢ 0

-- each request that one of the placements grants has a number
pub record AreNumbered (g : Grants) (ps : List Placement) : Type 0 where
  pub whole : length g.numbers ≡ 256
  pub each : AllByRecursion (IsNumbered g.numbers) ps
