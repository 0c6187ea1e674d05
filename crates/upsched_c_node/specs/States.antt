-- A node whose records are in memory, and what its calls do to it.
use Rattle.std.specs.Prelude.{◌≡◌, ◌≢◌, ℕ, ◌≤◌, IsTrue, List, [], length, Result, Ok, Err, Vec}
use Rattle.std.specs.declared.alloc.Global.{Global}
use Rattle.ballots.specs.Members.{member_count}
use Rattle.ballots.specs.declared.letters.Letter.{Letter}
use Rattle.acceptor.specs.Content.{Content}
use Rattle.node.specs.Calls.{Cause, IsNothingNew}
use Rattle.node.specs.Calls.Cause.{Receive, Lead, Offer, Tell}
use Rattle.node.specs.Sched.{view_over}
use Rattle.node.specs.Step.{Outcome, is_heeded, letters_told}
use Rattle.node.specs.Releases.{released_all}
use Rattle.node.specs.View.{View, started, gapless}
use Rattle.node.specs.declared.parts.Parts.{Parts}
use Rattle.std.specs.declared.alloc.AllocError.{AllocError}
use Rattle.command_log.specs.Values.{outputs_of_values}
use Rattle.command_log.specs.View.{AreRows}
use Rattle.map_release.specs.Released.{released}
use Rattle.map_release.specs.declared.numbered.Numbered.{Numbered}
use Rattle.proposer.specs.declared.fault.NodeFault.{NodeFault as Fault}
pub use Rattle.told_writes.specs.States.{NodeState, Takes}

abbrev pub state_of : Parts Content → NodeState
state_of parts = record { id = parts.proposer.id; members = member_count parts.proposer.members; view = view_over parts parts.records }

-- node id of so many members, started over this content
abbrev pub started_as : ℕ → ℕ → Content → NodeState
started_as id members c = record { id = id; members = members; view = started c }

-- a letter is heeded and says something new, or there is something to tell; the other calls say something anyhow
abbrev pub SaysNew : NodeState → Cause → Type 0
SaysNew n (Receive l) = IsTrue (is_heeded n.members n.id l) × ¬ IsNothingNew n.view.role n.view.tally.learned l.from l.note
SaysNew n Lead = Unit {0}
SaysNew n (Offer v) = Unit {0}
SaysNew n (Tell to q) = letters_told n.members n.id n.view.tally.learned to q ≢ []

-- a call may lack memory: it isn't declined, and says something new
abbrev pub MayLack : NodeState → Cause → Type 0
MayLack n cause = ((o : Outcome) × Takes n cause (Ok o)) × SaysNew n cause

-- a call is answered with its letters and is whole, or it is declined, or for want of memory it isn't made; then
-- nothing changed
abbrev pub Answered : NodeState → Cause → Result (List Letter) Fault → NodeState → Type 0
Answered n cause (Ok letters) after = (o : Outcome) × Takes n cause (Ok o) × (letters ≡ o.letters) × (after ≡ record n { view = o.view })
Answered n cause (Err Fault.OutOfMemory) after = MayLack n cause × (after ≡ n)
Answered n cause (Err declined) after = Takes n cause (Err declined) × (after ≡ n)

-- so many places were released, which are places that were learned without a gap
pub record HasReleased (count : ℕ) (view : View) : Type 0 where
  pub rows : AreRows 1 view.tally.learned
  pub cursor : view.cursor ≡ count
  pub few : count ≤ length (gapless view)

-- all that was learned without a gap is released
abbrev pub HasReleasedAll : NodeState → Type 0
HasReleasedAll n = n.view.cursor ≡ length (gapless n.view)

-- the same of a release of outputs, which only memory stops, and only where something is left to be released
abbrev pub Released : NodeState → (now : ℕ) → Result (List Numbered) AllocError → NodeState → Type 0
Released n now (Ok outputs) after = (outputs ≡ released now n.view.cursor (outputs_of_values (gapless n.view))) × (after ≡ record n { view = released_all n.view })
Released n now (Err _) after = ¬ HasReleasedAll n × (after ≡ n)

-- the outputs of a release that was answered
abbrev pub outputs_of : Result (Vec Numbered Global) AllocError → Result (List Numbered) AllocError
outputs_of (Ok numbered) = Ok numbered.items
outputs_of (Err e) = Err e
