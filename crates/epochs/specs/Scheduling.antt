-- A scheduler over values that come one after another.
use Rattle.std.specs.Prelude.{◌≡◌, ℕ, ◌+◌, ◌-◌, ◌^◌, ◌≤◌, List, [], ◌∷◌, ◌++◌, length, map, drop}
use Rattle.flow_state.specs.Rows.{Rows}
use Rattle.grant_machine.specs.Steps.{step}
use Rattle.grant_machine.specs.Runs.{rows_after}
use Rattle.command_log.specs.Reading.{command_of}
use Rattle.command_log.specs.Values.{outputs_of_values}
use Rattle.map_release.specs.declared.numbered.Numbered.{Numbered}
use Rattle.map_release.specs.Released.{numbered}

-- the tables, how many values are applied, and the outputs that weren't handed out, with their numbers
pub record SchedulerView : Type 0 where
  pub rows : Rows
  pub applied : ℕ
  pub waiting : List Numbered

-- so many values are applied at most
abbrev pub most_applied : ℕ
most_applied = 2 ^ 64 - 1

-- none is applied
abbrev pub no_values : SchedulerView
no_values = record { rows = []; applied = 0; waiting = [] }

-- so many are applied, their outputs were handed out, and these are the tables
abbrev pub begun_from : Rows → ℕ → SchedulerView
begun_from rows applied = record { rows = rows; applied = applied; waiting = [] }

-- one value more is applied, and its output waits
abbrev pub applied_to : SchedulerView → List ℕ → SchedulerView
applied_to s value = record {
  rows = (step s.rows (command_of value)).rows;
  applied = s.applied + 1;
  waiting = s.waiting ++ record { place = s.applied + 1; output = (step s.rows (command_of value)).output } ∷ [];
}

-- the tables behind these values
abbrev pub tables_after : List (List ℕ) → Rows
tables_after values = rows_after (map command_of values)

-- these values are applied, and the outputs of the first ones, so many, were handed out
abbrev pub scheduled : List (List ℕ) → ℕ → SchedulerView
scheduled values cursor = record {
  rows = tables_after values;
  applied = length values;
  waiting = drop cursor (numbered 1 (outputs_of_values values));
}

-- a scheduler begins without values
abbrev pub StartsEmpty : Type 0
StartsEmpty = no_values ≡ scheduled [] 0

-- with one value more it is the scheduler of one value more
abbrev pub AppliesNext : Type 0
AppliesNext = (values : List (List ℕ)) (value : List ℕ) (cursor : ℕ) → cursor ≤ length values → applied_to (scheduled values cursor) value ≡ scheduled (values ++ value ∷ []) cursor

-- where none waits, all were handed out
abbrev pub HandsOutRest : Type 0
HandsOutRest = (values : List (List ℕ)) (cursor : ℕ) → record (scheduled values cursor) { waiting = [] } ≡ scheduled values (length values)

-- begun from the tables behind values it is the scheduler of these, all handed out
abbrev pub GoesOnFromTables : Type 0
GoesOnFromTables = (values : List (List ℕ)) → begun_from (tables_after values) (length values) ≡ scheduled values (length values)
