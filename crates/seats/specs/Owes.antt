-- What a node that is up owes by what it has beside its records, whatever these do.
use Rattle.std.specs.Prelude.{◌≡◌, ◌≢◌, ◌<◌, ◌≤◌, ◌↔◌, ℕ, List, [], length, Bool, false, Result, Ok, Err}
use Rattle.ballots.specs.Ballots.{NoneAbove}
use Rattle.ballots.specs.Limits.{most_places}
use Rattle.ballots.specs.declared.letters.Letter.{Letter}
use Rattle.node.specs.declared.node.Node.{Ghosts}
use Rattle.node.specs.Calls.{IsNothingNew}
use Rattle.node.specs.Calls.Cause.{Lead, Offer, Receive, Tell}
use Rattle.node.specs.Step.{is_heeded, letters_told}
use Rattle.node.specs.View.{View, values_from}
use Rattle.proposer.specs.Turns.{Turn, offer}
use Rattle.proposer.specs.declared.fault.NodeFault.{NodeFault}
use Rattle.proposer.specs.declared.fault.NodeFault.TheVariants.{LogFull, OutOfMemory, RoundsSpent}
use Rattle.proposer.specs.declared.role.Role.{Role}
use Rattle.seats.specs.declared.answer.Answer.{Answer}
use Rattle.seats.specs.declared.answer.Answer.TheVariants.{Sent, Finished, Fault, Crashed}
use Rattle.seats.specs.declared.seat.Seat.{Seat}
use Rattle.seats.specs.Moves.{Ask}
use Rattle.seats.specs.Moves.Ask.{Call, TakeThenCrash}
use Rattle.seats.specs.Occupant.{is_up, node_of}

-- what is seen of a node without its records: whether it is up, its role, what it knows as learned, and all that it has
-- beside them
pub record Outside : Type 0 where
  pub up : Bool
  pub role : Role
  pub values : List (ℕ × List ℕ)
  pub rest : View

abbrev pub outside : {N : Type 0} {g : Ghosts N} → Seat N g → Outside
outside {N} {g} seat = record { up = is_up seat; role = g.role (node_of seat); values = g.values (node_of seat); rest = g.rest (node_of seat) }

-- no fault is answered
abbrev pub IsNoFault : Answer → Type 0
IsNoFault (Fault fault) = ⊥
IsNoFault answer = Unit {0}

-- a letter that node me passes over is taken so, and one that says nothing new ends in no fault
abbrev pub TakesLetter : ℕ → ℕ → Outside → Letter → Answer → Answer → Type 0
TakesLetter members me was l taken answer =
    (is_heeded members me l ≡ false → answer ≡ taken) × (IsNothingNew was.role was.values l.from l.note → IsNoFault answer)

-- LogFull comes exactly where the places learned without a gap fill the log, and else a node that heard of its last
-- ballot has spent its rounds
abbrev pub TakesLead : ℕ → Outside → Answer → Type 0
TakesLead me was answer =
    (answer ≡ Fault LogFull ↔ most_places ≤ length (values_from 1 was.values))
    × (length (values_from 1 was.values) < most_places → NoneAbove was.rest.hint me → answer ≡ Fault RoundsSpent)

-- an offer is answered by the proposer's turn, or there is no memory for its letters
abbrev pub TakesOffer : Result Turn NodeFault → Answer → List Letter → Type 0
TakesOffer (Ok turn) (Sent n) letters = letters ≡ turn.letters
TakesOffer (Ok turn) Crashed letters = Unit {0}
TakesOffer (Ok turn) (Fault fault) letters = fault ≡ OutOfMemory
TakesOffer (Ok turn) answer letters = ⊥
TakesOffer (Err declined) answer letters = answer ≡ Fault declined

-- these letters are told, and only where there are some they may be lost or find no memory
abbrev pub TellsLetters : List Letter → Answer → List Letter → Type 0
TellsLetters told (Sent n) letters = letters ≡ told
TellsLetters told answer letters = told ≢ []

-- node me of so many members, up and seen so, was asked so, answered so and sent these letters
abbrev pub Owes : ℕ → ℕ → Outside → Ask → Answer → List Letter → Type 0
Owes members me was (Call (Receive l)) answer letters = TakesLetter members me was l (Sent 0) answer
Owes members me was (TakeThenCrash l) answer letters = TakesLetter members me was l Finished answer
Owes members me was (Call Lead) answer letters = TakesLead me was answer
Owes members me was (Call (Offer v)) answer letters = TakesOffer (offer members me was.role v) answer letters
Owes members me was (Call (Tell n q)) answer letters = TellsLetters (letters_told members me was.values n q) answer letters
Owes members me was ask answer letters = Unit {0}
