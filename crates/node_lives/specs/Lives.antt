-- The lives of a process that is a node, one after another, and what its node did in them.
use Rattle.std.specs.Prelude.{◌≡◌, ◌⊎◌, ℕ, ◌<◌, List, [], ◌∷◌, ◌++◌, All, Ok}
use Rattle.acceptor.specs.Content.{Content, after_write, no_content}
use Rattle.node.specs.Calls.{Cause as Call, Course}
use Rattle.node.specs.Step.{Outcome}
use Rattle.node.specs.View.{View, started}
use Rattle.node.specs.View.Standing.{Running}
use Rattle.node_journal.specs.Turns.{Tells, cause_of, crash_entry, restart_entry}
use Rattle.node_lines.specs.Lines.{Asks}
use Rattle.node_lines.specs.declared.request.Request.{Request}
use Rattle.node_service.specs.declared.outgoing.Reply.{Reply}
use Rattle.node_service.specs.declared.outgoing.Reply.TheVariants.{Acted, Fresh, Refused, Restarted}
use Rattle.node_worker.specs.Entries.{EntryView}
use Rattle.node_worker.specs.Legal.{AllCome, IsSound, entries_of}
use Rattle.node_worker.specs.Replays.{IsSurvived, ask_of}
use Rattle.node_worker.specs.Runs.{AreLegal}
use Rattle.node_worker.specs.declared.entry.Done.{Done}
use Rattle.node_worker.specs.declared.entry.Ended.TheVariants.{FailedEither}
use Rattle.seats.specs.Acted.{told}
use Rattle.seats.specs.Moves.Ask.{Call as IsCalled}
use Rattle.upsched_node.specs.Serving.{RunsAs}

-- a line and the reply to it, as what the node did: nothing where the line was refused, and else one thing, for what
-- the line asks, which the reply tells
abbrev pub IsTold : List ℕ → Reply → List EntryView → Type 0
IsTold line (Acted acted) done = (e : EntryView) × (asked : Request) × (done ≡ e ∷ []) × Asks line asked × (e.cause ≡ cause_of asked) × Tells acted e × IsSurvived e.ended
IsTold line (Refused why) done = done ≡ []
IsTold line (Fresh me members) done = ⊥
IsTold line (Restarted me members) done = ⊥

-- the same of lines, one after another
abbrev pub AreTold : List (List ℕ × Reply) → List EntryView → Type 0
AreTold [] done = done ≡ []
AreTold (turn ∷ turns) done = (first rest : List EntryView) × (done ≡ first ++ rest) × IsTold turn.0 turn.1 first × AreTold turns rest

-- node me with this view is killed and leaves a content: between two calls its own, and within one its own or that
-- after the call's one write
abbrev pub IsKilled : ℕ → ℕ → View → EntryView → Content → Type 0
IsKilled members me view e left =
    ((e ≡ crash_entry) × (left ≡ view.content))
    ⊎ ((call : Call) × (o : Outcome) × (ask_of e.cause ≡ IsCalled call) × Course members me view call (Ok o) × (e.ended ≡ FailedEither) × (e.letters ≡ []) × (e.outputs ≡ [])
    × ((left ≡ view.content) ⊎ (left ≡ after_write view.content o.write)))

-- a life that begins over a content: its lines with their replies, and what the node did
pub record IsLife (members me : ℕ) (c : Content) (turns : List (List ℕ × Reply)) (done : List EntryView) (view : View) : Type 0 where
  pub runs : RunsAs members me (Running (started c)) turns (Running view)
  pub told : AreTold turns done

-- lives, the first over this content, and each next one over what the one before left; this is what the node did in
-- them
abbrev pub AreLives : ℕ → ℕ → Content → List (List (List ℕ × Reply)) → List EntryView → Type 0
AreLives members me c [] done = done ≡ []
AreLives members me c (turns ∷ []) done = (view : View) × IsLife members me c turns done view
AreLives members me c (turns ∷ next ∷ lives) done =
    (front rest : List EntryView) × (e : EntryView) × (view : View) × (left : Content) × (done ≡ front ++ (e ∷ restart_entry ∷ rest))
    × IsLife members me c turns front view × IsKilled members me view e left × AreLives members me left (next ∷ lives) rest

-- each member has lived so, the first time over nothing, in an order in which each letter that came was sent before
pub record HaveLived (members : ℕ) (records : List Done) : Type 0 where
  pub named : All (λ d. d.node < members) records
  pub lived : (k : ℕ) → k < members → (lives : List (List (List ℕ × Reply))) × AreLives members k no_content lives (entries_of k records)
  pub come : AllCome records

-- what they did is sound
abbrev pub LivesAreSound : Type 0
LivesAreSound = (members : ℕ) (records : List Done) → HaveLived members records → IsSound members records

-- and legal: read as events it is a run, which has one schedule, with all that holds of a run
abbrev pub LivesAreLegal : Type 0
LivesAreLegal = (members : ℕ) (records : List Done) → HaveLived members records → AreLegal members records []
