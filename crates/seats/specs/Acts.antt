-- What a node in its seat owes where it does what it is asked.
use Rattle.std.specs.Prelude.{◌≡◌, ◌≤◌, ℕ, List, [], length, Bool, true, false, if◌then◌else◌, Ok, Err}
use Rattle.ballots.specs.declared.letters.Letter.{Letter}
use Rattle.acceptor.specs.Calls.{KeepsTrust}
use Rattle.acceptor.specs.Faults.{HasRisen}
use Rattle.map_release.specs.declared.numbered.Numbered.{Numbered}
use Rattle.node.specs.declared.node.Node.{Ghosts}
use Rattle.node.specs.View.{View, Standing}
use Rattle.node.specs.Calls.{Cause, IsStop, StoreServed, TellsStore, TellsStoreOfRestart, Who}
use Rattle.node.specs.Calls.Cause.{Lead, Offer, Receive, Tell}
use Rattle.proposer.specs.Faults.{IsOfLead, IsOfOffer}
use Rattle.proposer.specs.declared.fault.NodeFault.{NodeFault}
use Rattle.proposer.specs.declared.fault.NodeFault.TheVariants.{OutOfMemory}
use Rattle.seats.specs.declared.answer.Answer.{Answer}
use Rattle.seats.specs.declared.answer.Answer.TheVariants.{Sent, Released, Finished, Refused, Fault, Crashed}
use Rattle.seats.specs.declared.seat.Seat.{Seat}
use Rattle.seats.specs.Gives.{gives}
use Rattle.seats.specs.Moves.{Ask, Move, Moves}
use Rattle.seats.specs.Moves.Ask.{Call, TakeThenCrash, Release, Crash, Restart}
use Rattle.seats.specs.Occupant.{Stands, IsHonest, node_of, who_of}
use Rattle.seats.specs.Owes.{Owes, Outside, outside}
use Rattle.seats.specs.Seat.{SameMember, survives}
use Rattle.seats.specs.StoreFaults.{is_store_fault}
use Rattle.world_events.specs.declared.refusal.EventRefusal.TheVariants.{NodeDown, NodeUp}

-- what a call of a node that is up may fail with, whatever its records do
abbrev pub MayFail : Cause → NodeFault → Type 0
MayFail (Receive l) fault = IsStop fault
MayFail Lead fault = IsOfLead fault
MayFail (Offer value) fault = IsOfOffer fault
MayFail (Tell to place) fault = fault ≡ OutOfMemory

-- a node that was up may answer so, and is up then or isn't, whatever its records do
abbrev pub AnswersUp : Ask → Answer → Bool → Type 0
AnswersUp (Call cause) (Sent n) up = up ≡ true
AnswersUp (Call cause) Crashed up = up ≡ false
AnswersUp (Call cause) (Fault fault) up = MayFail cause fault × (up ≡ survives fault)
AnswersUp (TakeThenCrash l) Finished up = up ≡ false
AnswersUp (TakeThenCrash l) (Fault fault) up = IsStop fault × (up ≡ false)
AnswersUp (Release now) (Released n) up = up ≡ true
AnswersUp (Release now) Crashed up = up ≡ false
AnswersUp (Release now) (Fault fault) up = IsStop fault × (up ≡ false)
AnswersUp Crash Finished up = up ≡ false
AnswersUp Restart (Refused NodeUp) up = up ≡ true
AnswersUp ask answer up = ⊥

-- a node that crashed, likewise
abbrev pub AnswersDown : Ask → Answer → Bool → Type 0
AnswersDown Restart Finished up = up ≡ true
AnswersDown Restart (Fault fault) up = IsStop fault × (up ≡ false)
AnswersDown Restart answer up = ⊥
AnswersDown ask (Refused NodeDown) up = up ≡ false
AnswersDown ask answer up = ⊥

abbrev pub MayAnswer : Bool → Ask → Answer → Bool → Type 0
MayAnswer true ask answer up = AnswersUp ask answer up
MayAnswer false ask answer up = AnswersDown ask answer up

-- so many letters or outputs go out as the answer says
abbrev pub GoOut : Answer → List Letter → List Numbered → Type 0
GoOut (Sent n) letters outputs = (n ≡ length letters) × (outputs ≡ [])
GoOut (Released n) letters outputs = (letters ≡ []) × (n ≡ length outputs)
GoOut answer letters outputs = (letters ≡ []) × (outputs ≡ [])

-- how the answer tells what the store did
abbrev pub TellsStoreOf : Answer → Ask → Who → Who → Type 0
TellsStoreOf (Fault fault) Restart old new = TellsStoreOfRestart {T = Unit {0}} old (Err fault) new
TellsStoreOf (Fault fault) ask old new = TellsStore {T = Unit {0}} old (Err fault) new
TellsStoreOf Finished Restart old new = TellsStoreOfRestart {T = Unit {0}} old (Ok tt) new
TellsStoreOf answer ask old new = StoreServed old new

-- what a node has beside its records stays where the call failed, or was refused
abbrev pub KeepsRest : Answer → View → View → Type 0
KeepsRest (Fault fault) old new = new ≡ old
KeepsRest (Refused refusal) old new = new ≡ old
KeepsRest answer old new = Unit {0}

-- node me of so many members was asked so, answered so and gave these letters and outputs, which it owes whatever its
-- records do
pub record AnswersAsOwed (members me : ℕ) (was : Outside) (ask : Ask) (answer : Answer) (letters : List Letter) (outputs : List Numbered) (is : Outside) : Type 0 where
  pub may : MayAnswer was.up ask answer is.up
  pub goes_out : GoOut answer letters outputs
  -- where it was up, its answer is what it knows without its records
  pub owes : was.up ≡ true → Owes members me was ask answer letters
  -- where it failed nothing has changed but its records, and that it is down
  pub rest : KeepsRest answer was.rest is.rest

-- from s, node me of so many members may answer so, with these letters and outputs, and stand there
abbrev pub GoesTo : ℕ → ℕ → Standing → Ask → Answer → List Letter → List Numbered → (Standing → Type 0) → Type 0
GoesTo members me s ask answer letters outputs After =
    (m : Move) × Moves members me s ask answer m × (m.letters ≡ letters) × (m.outputs ≡ outputs) × After m.standing

-- the same, wherever it may have stood
abbrev pub MovesBy : ℕ → ℕ → (Standing → Type 0) → Ask → Answer → List Letter → List Numbered → (Standing → Type 0) → Type 0
MovesBy members me Before ask answer letters outputs After =
    (s : Standing) → Before s → GoesTo members me s ask answer letters outputs After

-- a node in its seat was asked so, answered so, and gave these letters and outputs
pub record Acts {N : Type 0} {g : Ghosts N} (old : Seat N g) (ask : Ask) (answer : Answer) (letters : List Letter) (outputs : List Numbered) (new : Seat N g) : Type 0 where
  -- it is the same member, and its answer tells what its store did
  pub same : SameMember (who_of old) (who_of new)
  pub grows : (who_of old).failures ≤ (who_of new).failures
  pub tells : TellsStoreOf answer ask (who_of old) (who_of new)
  pub rose : is_store_fault answer ≡ true → HasRisen (who_of old).failures (who_of new).failures
  -- honesty isn't regained, and is kept over clean stores
  pub honesty : IsHonest new → IsHonest old
  pub trust : KeepsTrust g.honest g.clean (node_of old) (node_of new)
  -- the answer is one to what was asked, whatever its records did
  pub answers : AnswersAsOwed (who_of old).members (who_of old).id (outside old) ask answer letters outputs (outside new)
  -- and it moved so
  pub moves : IsHonest new → MovesBy (who_of old).members (who_of old).id (Stands old) ask answer letters outputs (Stands new)

-- the answer where there is room for what goes out, or there is none
abbrev pub settled : Answer → Bool → Answer
settled answer kept = if kept then answer else if gives answer then Crashed else answer

-- what goes out where there is room, or there is none
abbrev pub kept_of : {A : Type 0} → Bool → List A → List A
kept_of kept xs = if kept then xs else []

-- what was done, if there is room for what goes out, is done so
abbrev pub Settles : {N : Type 0} {g : Ghosts N} → Answer → Bool → Seat N g → Answer → Seat N g → Type 0
Settles {N} {g} told kept mid answer new =
    (old : Seat N g) (ask : Ask) (letters : List Letter) (outputs : List Numbered)
    → Acts old ask told letters outputs mid → Acts old ask answer (kept_of kept letters) (kept_of kept outputs) new
