-- A log as its callers see it.
use Rattle.std.specs.Prelude.{◌≡◌, ◌≢◌, ℕ, ◌+◌, ◌-◌, ◌≤◌, ◌&&◌, Bool, nat_le, IsTrue, if◌then◌else◌, List, [], ◌∷◌}
use Rattle.std.specs.Prelude.{length, Option, Some, None, slice_get}
use Rattle.std.specs.Map.{lookup}
use Rattle.std.specs.Ordering.{nat_cmp}
use Rattle.std.specs.BTreeMap.{insert_entry, is_at}
use Rattle.ballots.specs.Limits.{most_places}
use Rattle.grant_machine.specs.declared.output.Output.{Output}
use Rattle.command_log.specs.declared.log.LogFault.{LogFault}
use Rattle.command_log.specs.declared.log.LogFault.TheVariants.{Contradiction, BeyondLimit, OutOfMemory}
use Rattle.command_log.specs.Values.{Rows, outputs_of_values, gapless}

-- the learned values, and how many from place 1 on are applied
pub record LogView : Type 0 where
  pub learned : Rows
  pub applied : ℕ

-- p is a place of the log
abbrev pub is_place : ℕ → Bool
is_place p = nat_le 1 p && nat_le p most_places

-- rows by ascending place, from place p to the last place
abbrev pub AreRows : ℕ → Rows → Type 0
AreRows p [] = Unit {0}
AreRows p (row ∷ rows) = (p ≤ row.0) × (row.0 ≤ most_places) × AreRows (row.0 + 1) rows

-- what is always true of a log
pub record IsLog (v : LogView) : Type 0 where
  pub rows : AreRows 1 v.learned
  pub gapless : v.applied ≤ length (gapless v.learned)

-- the value that is learned at a place
abbrev pub value_at : Rows → ℕ → Option (List ℕ)
value_at rows p = lookup (is_at (nat_cmp p)) rows

-- why a value isn't learned at a place; the same value again is never refused
abbrev pub LearnFault : LogView → ℕ → List ℕ → LogFault → Type 0
LearnFault v place value BeyondLimit = ¬ IsTrue (is_place place)
LearnFault v place value Contradiction = IsTrue (is_place place) × ((other : List ℕ) × (value_at v.learned place ≡ Some other) × (other ≢ value))
LearnFault v place value OutOfMemory = IsTrue (is_place place) × (value_at v.learned place ≡ None)

-- the number of a fault
abbrev pub number_of_fault : LogFault → ℕ
number_of_fault Contradiction = 1
number_of_fault BeyondLimit = 2
number_of_fault OutOfMemory = 3

-- a value may be learned where nothing was or the same
abbrev pub CanLearn : LogView → ℕ → List ℕ → Type 0
CanLearn v place value = IsTrue (is_place place) × ((other : List ℕ) → value_at v.learned place ≡ Some other → other ≡ value)

abbrev pub with_learned : LogView → ℕ → List ℕ → LogView
with_learned v place value = record v { learned = insert_entry nat_cmp v.learned place value }

-- the output of an applied place, by the gapless values learned
abbrev pub output_at : LogView → ℕ → Option Output
output_at v place =
    if nat_le 1 place && nat_le place v.applied
    then slice_get (outputs_of_values (gapless v.learned)) (place - 1) else None
