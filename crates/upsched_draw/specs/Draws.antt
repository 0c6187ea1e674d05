-- What `draw` prints of a script, and of the commands that nodes learn and what modems transmit in it.
use Rattle.std.specs.Prelude.{◌≡◌, ℕ, ◌+◌, ◌==◌, ◌&&◌, ◌||◌, nat_le, nat_lt, Bool, true, false, if◌then◌else◌}
use Rattle.std.specs.Prelude.{List, [], ◌∷◌, ◌++◌, length, map, Option, Some, None}
use Rattle.std.specs.Io.KnownBytes.{Appends}
use Rattle.ballots.specs.declared.members.Members.{Members}
use Rattle.ballots.specs.Members.{member_count}
use Rattle.world_events.specs.declared.event.Event.{Event}
use Rattle.grant_machine.specs.declared.command.Command.{Command}
use Rattle.network_script.specs.World.{Written}
use Rattle.watched_runs.specs.Rows.{Seen}
use Rattle.watched_runs.specs.Steps.{IsStepRun, Leave}
use Rattle.script_steps.specs.declared.entry.Entry.{Entry}
use Rattle.script_text.specs.StepScript.{IsStepScript}
use Rattle.run_picture.specs.Pictures.{IsPictureOf}
use Rattle.upsched_check.specs.Draws.{DrawsCommands, TellsCommands}
use Rattle.upsched_draw.specs.Learned.{AreMostLearned}
use Rattle.map_picture.specs.declared.sent.Sent.{Sent}
use Rattle.upsched_draw.specs.Transmitted.{told}
use Rattle.upsched_draw.specs.declared.draw.Asked.{Asked}

-- before which event of so many a drawing ends, where the last one is asked for or isn't
abbrev pub end_of : Option ℕ → (events : ℕ) → ℕ
end_of None events = events
end_of (Some last) events = last + 1

-- the events that are asked for by the first one and the last: from a number on, and before another one; none, where the
-- last one is before the first or isn't there
abbrev pub span_of : Asked → (events : ℕ) → Option (ℕ × ℕ)
span_of a events =
    if nat_le (end_of a.to events) events && ((a.from == 0) || nat_lt a.from (end_of a.to events)) then Some (a.from, end_of a.to events)
    else None

-- what is printed is a picture of these events of a run; without such nothing is
abbrev pub DrawsRun : Bool → ℕ → List ℕ → Option (ℕ × ℕ) → Seen → Option (List ℕ) → Option (List ℕ) → Type 0
DrawsRun true members ids (Some span) run old new = (text : List ℕ) × IsPictureOf members ids span run text × Appends old new (text ++ 10 ∷ [])
DrawsRun false members ids None run old new = new ≡ old
DrawsRun drawn members ids span run old new = ⊥

-- what is printed is a picture of what is asked for of a run of these steps, over so many fresh nodes and new modems of
-- these ids, each the event that it means where it happens; where the run has no such events, nothing is
abbrev pub DrawsSteps : Bool → ℕ → List ℕ → Asked → List Entry → Option (List ℕ) → Option (List ℕ) → Type 0
DrawsSteps drawn members ids asked steps old new =
    (events : List Event) × (run : Seen) × IsStepRun members ids steps events run × DrawsRun drawn members ids (span_of asked (length run.rows)) run old new

-- so of a run of the script, where the script's text is known
abbrev pub DrawsScript : Bool → Asked → Option (List ℕ) → Option (List ℕ) → Option (List ℕ) → Type 0
DrawsScript drawn asked None old new = Unit {0}
DrawsScript drawn asked (Some text) old new =
    (count : Members) × (ids : List ℕ) × (steps : List Entry) × IsStepScript text count ids steps × DrawsSteps drawn (member_count count) ids asked steps old new

-- ---- the MAPs of a run

-- the steps may go so, over so many fresh nodes and new modems of these ids, that in the end these are the commands of a
-- node that has learned most, and this is what the modems have transmitted
abbrev pub LeavesLearned : ℕ → List ℕ → List Entry → List Command → List Sent → Type 0
LeavesLearned members ids steps cs ts =
    (events : List Event) × (run : Seen) × IsStepRun members ids steps events run
    × (w : Written) × Leave members ids events run w × AreMostLearned w.nodes cs × (ts ≡ map (told ids) w.transmissions)

-- so in the script that a text is
abbrev pub LearnsFrom : List ℕ → List Command → List Sent → Type 0
LearnsFrom text cs ts =
    (count : Members) × (ids : List ℕ) × (steps : List Entry) × IsStepScript text count ids steps × LeavesLearned (member_count count) ids steps cs ts

-- what is printed is a picture of what these commands do, as it is of a plan's, and of what modems transmitted in the
-- same run, where the text is known
abbrev pub DrawsLearned : Option (List ℕ) → Option (List ℕ) → Option (List ℕ) → Type 0
DrawsLearned None old new = Unit {0}
DrawsLearned (Some text) old new = (cs : List Command) × (ts : List Sent) × LearnsFrom text cs ts × DrawsCommands cs ts old new

-- or the text of what the commands do
abbrev pub TellsLearned : Option (List ℕ) → Option (List ℕ) → Option (List ℕ) → Type 0
TellsLearned None old new = Unit {0}
TellsLearned (Some text) old new = (cs : List Command) × (ts : List Sent) × LearnsFrom text cs ts × TellsCommands cs old new
