-- What a node writes into its journal, life after life, and what it did by then. A life begins with an empty line and
-- the line that says who the node is; then each line that it reads is followed by its reply, until the process is
-- killed at any point.
use Rattle.std.specs.Prelude.{◌⊎◌, ℕ, List, [], ◌∷◌, ◌++◌}
use Rattle.ballots.specs.declared.members.Members.{Members}
use Rattle.node_lines.specs.Input.{IsLine}
use Rattle.node_lines.specs.Lines.{Asks}
use Rattle.node_lines.specs.declared.fault.LineFault.{LineFault}
use Rattle.node_lines.specs.declared.request.Request.{Request}
use Rattle.node_service.specs.Incoming.{IsTurnedAway}
use Rattle.node_service.specs.Texts.{fresh_text, refused_text, restarted_text}
use Rattle.node_worker.specs.Entries.{EntryView}
use Rattle.node_journal.specs.declared.phase.Phase.{Phase}
use Rattle.node_journal.specs.declared.phase.Phase.TheVariants.{Unborn, Up, Cut, Down}
use Rattle.node_journal.specs.Turns.{BeginsWith, IsDoubtPart, IsStopPart, IsTurn, crash_entry, restart_entry}

-- the first lines of a life: of a node that holds nothing, and of one that goes on over what it left
abbrev pub fresh_head : ℕ → Members → List ℕ
fresh_head me members = 10 ∷ fresh_text me members

abbrev pub restarted_head : ℕ → Members → List ℕ
restarted_head me members = 10 ∷ restarted_text me members

-- node me of these members wrote this text, did this, and is in this phase
pub data Writes (me : ℕ) (members : Members) : List ℕ → List EntryView → Phase → Type 0 where
  -- nothing was written
  nothing : Writes me members [] [] Unborn
  -- a first life begins, or is killed as it begins
  begins : (text : List ℕ) → Writes me members text [] Unborn → Writes me members (text ++ fresh_head me members) [] Up
  begins_part : (text part : List ℕ) → Writes me members text [] Unborn → BeginsWith part (fresh_head me members)
      → Writes me members (text ++ part) [] Cut
  -- a line is replied to, or refused
  replies : (text : List ℕ) (done : List EntryView) (line : List ℕ) (e : EntryView) (reply : List ℕ)
      → Writes me members text done Up → IsTurn line e reply → Writes me members (text ++ (line ++ 10 ∷ reply)) (done ++ e ∷ []) Up
  refuses : (text : List ℕ) (done : List EntryView) (line : List ℕ) (why : LineFault)
      → Writes me members text done Up → IsLine line → IsTurnedAway line why
      → Writes me members (text ++ (line ++ 10 ∷ refused_text why)) done Up
  -- the life ends between two lines, or within one
  ends : (text : List ℕ) (done : List EntryView) (half : List ℕ) → Writes me members text done Up → IsLine half
      → Writes me members (text ++ half) done Cut
  -- or behind a line that asks something and isn't obeyed, maybe within the reply that the node crashed
  ends_before : (text : List ℕ) (done : List EntryView) (line : List ℕ) (asked : Request) (part : List ℕ)
      → Writes me members text done Up → IsLine line → Asks line asked → IsStopPart part
      → Writes me members (text ++ (line ++ 10 ∷ part)) done Cut
  -- or within a refusal
  ends_refusing : (text : List ℕ) (done : List EntryView) (line : List ℕ) (why : LineFault) (part : List ℕ)
      → Writes me members text done Up → IsLine line → IsTurnedAway line why → BeginsWith part (refused_text why)
      → Writes me members (text ++ (line ++ 10 ∷ part)) done Cut
  -- or behind a line that is obeyed, within the reply, or the one that the store broke
  ends_behind : (text : List ℕ) (done : List EntryView) (line : List ℕ) (e : EntryView) (reply part : List ℕ)
      → Writes me members text done Up → IsTurn line e reply → BeginsWith part reply ⊎ IsDoubtPart part
      → Writes me members (text ++ (line ++ 10 ∷ part)) (done ++ e ∷ []) Cut
  -- a node that did nothing may begin again
  idles : (text : List ℕ) → Writes me members text [] Cut → Writes me members text [] Unborn
  -- any crashes, and the next life goes on over what it left, or is killed as it begins
  crashes : (text : List ℕ) (done : List EntryView) → Writes me members text done Cut
      → Writes me members text (done ++ crash_entry ∷ []) Down
  restarts : (text : List ℕ) (done : List EntryView) → Writes me members text done Down
      → Writes me members (text ++ restarted_head me members) (done ++ restart_entry ∷ []) Up
  restarts_part : (text : List ℕ) (done : List EntryView) (part : List ℕ)
      → Writes me members text done Down → BeginsWith part (restarted_head me members) → Writes me members (text ++ part) done Down
