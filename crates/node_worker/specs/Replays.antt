-- Where a node stands after its entries.
use Rattle.std.specs.Prelude.{◌≡◌, ℕ, List, [], ◌∷◌, true, length}
use Rattle.ballots.specs.declared.letters.Letter.{Letter}
use Rattle.acceptor.specs.Content.{no_content}
use Rattle.map_release.specs.declared.numbered.Numbered.{Numbered}
use Rattle.proposer.specs.declared.fault.NodeFault.TheVariants.{OutOfMemory, Down}
use Rattle.node.specs.declared.node.Node.{Ghosts}
use Rattle.node.specs.View.{Standing, started}
use Rattle.node.specs.View.Standing.{Running}
use Rattle.node.specs.Calls.Cause.{Lead as AskedToLead, Offer as Offered, Receive as Received, Tell as AskedToTell}
use Rattle.seats.specs.declared.answer.Answer.{Answer}
use Rattle.seats.specs.declared.answer.Answer.TheVariants as answer
use Rattle.seats.specs.Moves.{Ask, Move, Moves}
use Rattle.seats.specs.Moves.Ask.{Call as IsCalled, Release as ReleaseAt, Crash as CrashNow, Restart as StartAgain}
use Rattle.seats.specs.Occupant.{Stands, who_of}
use Rattle.seats.specs.Seat.{survives}
use Rattle.seats.specs.declared.seat.Seat.{Seat}
use Rattle.node_worker.specs.declared.entry.Ask.TheVariants.{Lead, Offer, Tell, Release, Crash, Restart}
use Rattle.node_worker.specs.declared.entry.Cause.{Cause}
use Rattle.node_worker.specs.declared.entry.Cause.TheVariants.{Ask as Asked, Letter as Came}
use Rattle.node_worker.specs.declared.entry.Ended.{Ended}
use Rattle.node_worker.specs.declared.entry.Ended.TheVariants.{Whole, Fault, Refused, FailedBefore, FailedEither, Lost}
use Rattle.node_worker.specs.Entries.{EntryView}

-- what a cause asks of a node
abbrev pub ask_of : Cause → Ask
ask_of (Asked Lead) = IsCalled AskedToLead
ask_of (Asked (Offer value)) = IsCalled (Offered value)
ask_of (Asked (Tell to place)) = IsCalled (AskedToTell to place)
ask_of (Asked (Release now)) = ReleaseAt now
ask_of (Asked Crash) = CrashNow
ask_of (Asked Restart) = StartAgain
ask_of (Came l) = IsCalled (Received l)

-- the answer to what was asked and ended whole
abbrev pub whole_answer : Ask → List Letter → List Numbered → Answer
whole_answer (IsCalled call) letters outputs = answer.Sent (length letters)
whole_answer (ReleaseAt now) letters outputs = answer.Released (length outputs)
whole_answer ask letters outputs = answer.Finished

-- how it ended, read as an answer: a crash before the write as want of memory, one with the write in doubt as a broken
-- store
abbrev pub answer_to : Ask → Ended → List Letter → List Numbered → Answer
answer_to ask Whole letters outputs = whole_answer ask letters outputs
answer_to ask (Fault fault) letters outputs = answer.Fault fault
answer_to ask (Refused refusal) letters outputs = answer.Refused refusal
answer_to ask FailedBefore letters outputs = answer.Fault OutOfMemory
answer_to ask FailedEither letters outputs = answer.Fault Down
answer_to ask Lost letters outputs = answer.Crashed

-- the same of a cause
abbrev pub answer_of : Cause → Ended → List Letter → List Numbered → Answer
answer_of cause ended letters outputs = answer_to (ask_of cause) ended letters outputs

-- a fault that is told as one is one that the node survives
abbrev pub IsSurvived : Ended → Type 0
IsSurvived (Fault fault) = survives fault ≡ true
IsSurvived ended = Unit {0}

-- one entry brings node k of so many members from s to t: what its cause asks is answered so, and the node moves so
abbrev pub EntryStep : ℕ → ℕ → Standing → EntryView → Standing → Type 0
EntryStep members k s e t =
    IsSurvived e.ended
    × (m : Move) × Moves members k s (ask_of e.cause) (answer_of e.cause e.ended e.letters e.outputs) m
    × (m.standing ≡ t) × (m.letters ≡ e.letters) × (m.outputs ≡ e.outputs)

-- a node as it begins
abbrev pub opening : Standing
opening = Running (started no_content)

-- the entries, one after another, bring node k from s to t
abbrev pub Replays : ℕ → ℕ → Standing → List EntryView → Standing → Type 0
Replays members k s [] t = s ≡ t
Replays members k s (e ∷ es) t = (m : Standing) × EntryStep members k s e m × Replays members k m es t

-- node k, fresh, may stand at t after these entries
abbrev pub ReplaysTo : ℕ → ℕ → List EntryView → Standing → Type 0
ReplaysTo members k entries t = Replays members k opening entries t

-- a node that may stand so is what its entries make of a fresh one
abbrev pub IsKept : ℕ → ℕ → (Standing → Type 0) → List EntryView → Type 0
IsKept members k Stands entries = (s : Standing) × Stands s × ReplaysTo members k entries s

-- wherever the node may have stood, the entry brings it to where it now may stand
abbrev pub Carries : ℕ → ℕ → (Standing → Type 0) → EntryView → (Standing → Type 0) → Type 0
Carries members k Old e New = (s : Standing) → Old s → (t : Standing) × EntryStep members k s e t × New t

-- the same of a node in its seat
abbrev pub CarriesSeat : {N : Type 0} {g : Ghosts N} → Seat N g → EntryView → Seat N g → Type 0
CarriesSeat old e new = Carries (who_of old).members (who_of old).id (Stands old) e (Stands new)
