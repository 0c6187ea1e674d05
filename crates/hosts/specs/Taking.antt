-- Values that a scheduler takes from a node.
use Rattle.std.specs.Prelude.{◌≡◌, ◌⊎◌, ℕ, ◌+◌, ◌≤◌, List, length, fold, Option, Some, None, slice_get}
use Rattle.node.specs.declared.node.Node.{Ghosts}
use Rattle.node.specs.View.{Standing}
use Rattle.seats.specs.Occupant.{Stands}
use Rattle.seats.specs.declared.seat.Seat.{Seat}
use Rattle.epochs.specs.Scheduling.{SchedulerView, applied_to}
use Rattle.hosts.specs.Views.{learned_at}

-- wherever a node may stand, it has learned this at a place, or nothing
abbrev pub HasAt : {N : Type 0} {g : Ghosts N} → Seat N g → ℕ → Option (List ℕ) → Type 0
HasAt seat p found = (s : Standing) → Stands seat s → learned_at s p ≡ found

-- these values were taken from it behind the first ones, so many, and applied one after another
pub record TakesFrom {N : Type 0} {g : Ghosts N} (seat : Seat N g) (places first : ℕ) (s : SchedulerView) (last : ℕ) (s' : SchedulerView) : Type 0 where
  pub more : List (List ℕ)
  pub learned : (i : ℕ) (x : List ℕ) → slice_get more i ≡ Some x → HasAt seat (first + i + 1) (Some x)
  pub taken : last ≡ first + length more
  pub fits : last ≤ places
  pub applied : s'.applied ≡ s.applied + length more
  pub scheduler : s' ≡ fold applied_to s more

-- no more is there to take
abbrev pub IsAllOf : {N : Type 0} {g : Ghosts N} → Seat N g → (places taken : ℕ) → Type 0
IsAllOf seat places taken = (taken ≡ places) ⊎ HasAt seat (taken + 1) None
