-- A plan's commands behind those that led to some tables.
use Rattle.std.specs.Prelude.{◌≡◌, ℕ, List, Option, Some, None}
use Rattle.std.specs.Io.KnownBytes.{Appends}
use Rattle.flow_state.specs.Rows.{Rows}
use Rattle.grant_machine.specs.declared.command.Command.{Command}
use Rattle.grant_machine.specs.Runs.{outputs_from, rows_from}
use Rattle.script_text.specs.Plan.{IsPlan}
use Rattle.upsched_maps.specs.Lines.{output_lines}

-- what is printed is the lines of the commands' outputs from these tables on, numbered from 1, and these are the tables behind them
pub record Resumed (cs : List Command) (begun left : Rows) (old new : Option (List ℕ)) : Type 0 where
  pub printed : Appends old new (output_lines 1 (outputs_from begun cs))
  pub rows : left ≡ rows_from begun cs

-- the commands are those of the plan, where its text is known
abbrev pub ResumesPlan : Option (List ℕ) → (begun left : Rows) → (old new : Option (List ℕ)) → Type 0
ResumesPlan None begun left old new = (cs : List Command) × Resumed cs begun left old new
ResumesPlan (Some text) begun left old new = (cs : List Command) × IsPlan text cs × Resumed cs begun left old new
