-- What `run` prints of a script.
use Rattle.std.specs.Prelude.{ℕ, List, Option, Some, None}
use Rattle.std.specs.Io.KnownBytes.{Appends}
use Rattle.ballots.specs.declared.members.Members.{Members}
use Rattle.ballots.specs.Members.{member_count}
use Rattle.world_events.specs.declared.event.Event.{Event}
use Rattle.printed_scripts.specs.Texts.{script_text}
use Rattle.script_steps.specs.declared.entry.Entry.{Entry}
use Rattle.script_text.specs.StepScript.{IsStepScript}
use Rattle.watched_runs.specs.Rows.{Seen}
use Rattle.watched_runs.specs.Steps.{IsStepRun}
use Rattle.upsched_run.specs.declared.trace.Trace.{Trace}
use Rattle.upsched_run.specs.RunLines.{run_lines}

-- what is printed is the lines, traced or not, of a run of these entries over so many fresh nodes and new modems of these
-- ids, each what it means where it happens
abbrev pub PrintsSteps : Trace → ℕ → List ℕ → List Entry → Option (List ℕ) → Option (List ℕ) → Type 0
PrintsSteps trace members ids entries old new =
    (events : List Event) × (run : Seen) × IsStepRun members ids entries events run × Appends old new (run_lines trace run)

-- what is printed is the lines of a run of the script, traced or not, where the script's text is known
abbrev pub PrintsScript : Trace → Option (List ℕ) → Option (List ℕ) → Option (List ℕ) → Type 0
PrintsScript trace None old new = Unit {0}
PrintsScript trace (Some text) old new =
    (count : Members) × (ids : List ℕ) × (entries : List Entry) × IsStepScript text count ids entries × PrintsSteps trace (member_count count) ids entries old new

-- over so many fresh nodes and new modems of these ids the entries may come to these events
abbrev pub ComeTo : ℕ → List ℕ → List Entry → List Event → Type 0
ComeTo members ids entries events = (run : Seen) × IsStepRun members ids entries events run

-- what is printed is the script of the events that the entries of a script come to, where the script's text is known
abbrev pub PrintsPlain : Option (List ℕ) → Option (List ℕ) → Option (List ℕ) → Type 0
PrintsPlain None old new = Unit {0}
PrintsPlain (Some text) old new =
    (count : Members) × (ids : List ℕ) × (entries : List Entry) × IsStepScript text count ids entries
    × (events : List Event) × ComeTo (member_count count) ids entries events × Appends old new (script_text count ids events)
