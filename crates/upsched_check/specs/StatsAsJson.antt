-- What is told of the MAPs of a plan as JSON.
use Rattle.std.specs.Prelude.{ℕ, ◌/◌, List, ◌++◌, map, Option, Some, None}
use Rattle.std.specs.Io.KnownBytes.{Appends}
use Rattle.std.specs.List.{AllZip, flat_map}
use Rattle.serde_json.specs.Data.{Data}
use Rattle.grant_machine.specs.declared.command.Command.{Command}
use Rattle.grant_machine.specs.Runs.{outputs_of}
use Rattle.plan_account.specs.Accounts.{Rows, IsAccount}
use Rattle.map_stats.specs.declared.tally.Tally.{Tally}
use Rattle.map_stats.specs.declared.rows.FlowRow.{FlowRow}
use Rattle.json_outputs.specs.Texts.{IsTextOf}
use Rattle.json_stats.specs.Tallies.{map_data, use_data, sid_data}
use Rattle.json_stats.specs.Flows.{flow_data}
use Rattle.script_text.specs.Plan.{IsPlan}
use Rattle.upsched_json.specs.Plans.{text_lines}
use Rattle.upsched_check.specs.Stats.{AreStats, whole_of}

-- an object for each channel with MAPs, for each use on a channel, and for each use of a SID
abbrev pub map_value : ℕ × Tally → Data
map_value row = map_data row.0 row.1

abbrev pub use_value : List (ℕ × Tally) → ℕ × Tally → Data
use_value maps row = use_data row.0 row.1 (whole_of maps (row.0 / 16))

abbrev pub sid_value : ℕ × Tally → Data
sid_value row = sid_data row.0 row.1

-- in the order of the lines: first those of MAPs, then of uses, then of SIDs, and then those of flows
abbrev pub stats_data : List (ℕ × Tally) → List (ℕ × Tally) → List (ℕ × Tally) → List FlowRow → List Data
stats_data maps uses sids rows = map map_value maps ++ map (use_value maps) uses ++ map sid_value sids ++ flat_map flow_data rows

-- lines tell these values, in order, each the text of one
abbrev pub PrintsValues : List Data → Option (List ℕ) → Option (List ℕ) → Type 0
PrintsValues ds old new = (texts : List (List ℕ)) × AllZip IsTextOf ds texts × Appends old new (text_lines texts)

-- what is printed tells the rows that `stats` prints of the plan, where the plan's text is known
abbrev pub TellsStatsAsJson : Option (List ℕ) → Option (List ℕ) → Option (List ℕ) → Type 0
TellsStatsAsJson None old new = Unit {0}
TellsStatsAsJson (Some text) old new =
    (cs : List Command) × (a : Rows) × (maps : List (ℕ × Tally)) × (uses : List (ℕ × Tally)) × (sids : List (ℕ × Tally)) × (rows : List FlowRow)
    × IsPlan text cs × IsAccount cs (outputs_of cs) a × AreStats a maps uses sids rows × PrintsValues (stats_data maps uses sids rows) old new
