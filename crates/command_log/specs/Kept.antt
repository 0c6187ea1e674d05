-- What a log stores, and what is always true of it.
use Rattle.std.specs.Prelude.{◌≡◌, ℕ, List, map, take, vec_len}
use Rattle.grant_machine.specs.Runs.{rows_after}
use Rattle.command_log.specs.declared.log.Log.TheInside.{Inside}
use Rattle.command_log.specs.Reading.{command_of}
use Rattle.command_log.specs.Values.{outputs_of_values, gapless}
use Rattle.command_log.specs.View.{LogView, IsLog}

abbrev pub log_view : Inside → LogView
log_view a = record { learned = a.learned.entries; applied = vec_len a.outputs }

-- the values that are applied
abbrev pub applied_values : Inside → List (List ℕ)
applied_values a = take (vec_len a.outputs) (gapless a.learned.entries)

-- the outputs and the machine are those of the applied values
pub record IsKept (a : Inside) : Type 0 where
  pub log : IsLog (log_view a)
  pub outputs : a.outputs.items ≡ outputs_of_values (applied_values a)
  pub machine : a.machine ≡ rows_after (map command_of (applied_values a))
