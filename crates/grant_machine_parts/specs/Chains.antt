-- Chains through requests, one for each priority, by arrival.
use Rattle.std.specs.Prelude.{◌≡◌, ◌⊎◌, ℕ, suc, ◌<◌, ◌≤◌, List, [], ◌∷◌, length, drop, Some, slice_get, slice_index}
use Rattle.grant_machine_parts.specs.declared.chains.Chains.{Chains}
use Rattle.grant_machine_parts.specs.declared.chains.TheConstants.{PRIORITIES, MOST_CHAINED}
use Rattle.grant_machine_parts.specs.Ranks.{Ranked, of_priority}

-- the number, from 1, of the first request of a priority from a place on, which has the others of it behind it; 0 where
-- there is none
abbrev pub Leads : List Ranked → (priority place number : ℕ) → Type 0
Leads rs priority place number =
    ((number ≡ 0) × (of_priority (drop place rs) priority ≡ []))
    ⊎ ((j : ℕ) × (r : Ranked) × (number ≡ suc j) × (slice_get rs j ≡ Some r) × (r.priority ≡ priority) × (of_priority (drop place rs) priority ≡ r ∷ of_priority (drop (suc j) rs) priority))

-- the numbers lead through the requests from a place on
pub record AreFrom (firsts nexts : List ℕ) (rs : List Ranked) (place : ℕ) : Type 0 where
  pub all_firsts : length firsts ≡ PRIORITIES
  pub all_nexts : length nexts ≡ MOST_CHAINED
  pub few : length rs ≤ MOST_CHAINED
  pub first : (priority : ℕ) → priority < PRIORITIES → Leads rs priority place (slice_index firsts priority)
  pub next : (j : ℕ) (r : Ranked) → place ≤ j → slice_get rs j ≡ Some r → r.priority < PRIORITIES → Leads rs r.priority (suc j) (slice_index nexts j)

abbrev pub AreChains : Chains → List Ranked → Type 0
AreChains chains rs = AreFrom chains.firsts chains.nexts rs 0
