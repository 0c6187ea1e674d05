-- A line of a node's journal and the reply to it, as an entry of the node tells them.
use Rattle.std.specs.Prelude.{◌≡◌, ℕ, List, [], ◌++◌}
use Rattle.node_lines.specs.Input.{IsLine}
use Rattle.node_lines.specs.Lines.{Asks}
use Rattle.node_lines.specs.declared.request.Request.{Request}
use Rattle.node_lines.specs.declared.request.Request.TheVariants as request
use Rattle.node_service.specs.Texts.{acted_text}
use Rattle.node_worker.specs.Entries.{EntryView, entry}
use Rattle.node_worker.specs.Replays.{answer_of}
use Rattle.node_worker.specs.declared.entry.Ask.TheVariants.{Lead, Offer, Tell, Release, Crash, Restart}
use Rattle.node_worker.specs.declared.entry.Cause.{Cause}
use Rattle.node_worker.specs.declared.entry.Cause.TheVariants.{Ask as Asked, Letter as Came}
use Rattle.node_worker.specs.declared.entry.Ended.TheVariants.{Whole}
use Rattle.proposer.specs.declared.fault.NodeFault.{NodeFault}
use Rattle.proposer.specs.declared.fault.NodeFault.TheVariants.{Down}
use Rattle.node.specs.Calls.{IsStop}
use Rattle.seats.specs.Acted.{letters_of, outputs_of, told}
use Rattle.seats.specs.declared.acted.Acted.{Acted}
use Rattle.seats.specs.declared.acted.Acted.TheVariants.{Fault}

-- what a request is as a cause
abbrev pub cause_of : Request → Cause
cause_of request.Lead = Asked Lead
cause_of (request.Offer value) = Asked (Offer value)
cause_of (request.Release now) = Asked (Release now)
cause_of (request.Letter letter) = Came letter
cause_of (request.Tell to place) = Asked (Tell to place)

-- what came of a request is what the entry tells
pub record Tells (acted : Acted) (e : EntryView) : Type 0 where
  pub answer : told acted ≡ answer_of e.cause e.ended e.letters e.outputs
  pub letters : letters_of acted ≡ e.letters
  pub outputs : outputs_of acted ≡ e.outputs

-- the line asks for the cause of the entry, and this is the whole reply that tells it
pub record IsTurn (line : List ℕ) (e : EntryView) (reply : List ℕ) : Type 0 where
  pub whole : IsLine line
  pub asked : Request
  pub asks : Asks line asked
  pub cause : e.cause ≡ cause_of asked
  pub acted : Acted
  pub tells : Tells acted e
  pub text : reply ≡ acted_text acted

-- a text begins with this part
abbrev pub BeginsWith : List ℕ → List ℕ → Type 0
BeginsWith part text = (rest : List ℕ) × (text ≡ part ++ rest)

-- a part of the reply that a node lacked memory, or that its store failed: the node crashed
abbrev pub IsStopPart : List ℕ → Type 0
IsStopPart part = (fault : NodeFault) × IsStop fault × BeginsWith part (acted_text (Fault fault))

-- a part of the reply that its store broke: the write was made or not
abbrev pub IsDoubtPart : List ℕ → Type 0
IsDoubtPart part = BeginsWith part (acted_text (Fault Down))

-- the crash of a node that was killed, and its next start
abbrev pub crash_entry : EntryView
crash_entry = entry (Asked Crash) Whole [] []

abbrev pub restart_entry : EntryView
restart_entry = entry (Asked Restart) Whole [] []
