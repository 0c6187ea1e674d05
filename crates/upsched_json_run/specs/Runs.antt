-- What `run --json` prints of a script.
use Rattle.std.specs.Prelude.{ℕ, Bool, List, Option, Some, None, length}
use Rattle.std.specs.Io.KnownBytes.{Appends}
use Rattle.std.specs.List.{AllZip}
use Rattle.ballots.specs.declared.members.Members.{Members}
use Rattle.ballots.specs.Members.{member_count}
use Rattle.world_events.specs.declared.event.Event.{Event}
use Rattle.script_steps.specs.declared.entry.Entry.{Entry}
use Rattle.script_text.specs.StepScript.{IsStepScript}
use Rattle.watched_runs.specs.Rows.{Row, Seen}
use Rattle.watched_runs.specs.Steps.{IsStepRun}
use Rattle.json_outputs.specs.Texts.{IsTextWhere}
use Rattle.json_answers.specs.Events.{TellsRow, counts_data}
use Rattle.upsched_json.specs.Lines.{PrintsValue}
use Rattle.upsched_json.specs.Plans.{text_lines}

-- a text tells an event, traced or not
abbrev pub IsTextOfRow : Bool → Row → List ℕ → Type 0
IsTextOfRow traced row text = IsTextWhere (TellsRow traced row) text

-- a line for each event, in order, whose text tells it
abbrev pub PrintsRows : Bool → List Row → Option (List ℕ) → Option (List ℕ) → Type 0
PrintsRows traced rows old new = (texts : List (List ℕ)) × AllZip (IsTextOfRow traced) rows texts × Appends old new (text_lines texts)

-- and then the line of how many letters, outputs and transmissions there were
abbrev pub PrintsRun : Bool → Seen → Option (List ℕ) → Option (List ℕ) → Type 0
PrintsRun traced run old new =
    (mid : Option (List ℕ)) × PrintsRows traced run.rows old mid
    × PrintsValue (counts_data (length run.letters) (length run.outputs) (length run.transmissions)) mid new

-- what is printed tells, traced or not, a run of these steps over so many fresh nodes and new modems of these ids, each
-- the event that it means where it happens
abbrev pub PrintsStepsAsJson : Bool → ℕ → List ℕ → List Entry → Option (List ℕ) → Option (List ℕ) → Type 0
PrintsStepsAsJson traced members ids steps old new =
    (events : List Event) × (run : Seen) × IsStepRun members ids steps events run × PrintsRun traced run old new

-- what is printed tells a run of the script, traced or not, where the script's text is known
abbrev pub PrintsScriptAsJson : Bool → Option (List ℕ) → Option (List ℕ) → Option (List ℕ) → Type 0
PrintsScriptAsJson traced None old new = Unit {0}
PrintsScriptAsJson traced (Some text) old new =
    (count : Members) × (ids : List ℕ) × (steps : List Entry) × IsStepScript text count ids steps
    × PrintsStepsAsJson traced (member_count count) ids steps old new
