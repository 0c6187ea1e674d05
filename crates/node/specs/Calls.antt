-- How the calls of a node end.
use Rattle.std.specs.Prelude.{◌≡◌, ◌≢◌, ◌⊎◌, ◌↔◌, ℕ, ◌≤◌, Bool, true, false, IsTrue, List, None, Result, Ok, Err, is_ok}
use Rattle.std.specs.Prelude.{Vec, ◌<◌, length}
use Rattle.std.specs.declared.alloc.Global.{Global}
use Rattle.ballots.specs.Limits.{most_places}
use Rattle.ballots.specs.Rows.{at}
use Rattle.ballots.specs.declared.letters.Letter.{Letter}
use Rattle.ballots.specs.declared.letters.Note.{Note}
use Rattle.ballots.specs.declared.letters.Note.TheVariants.{Prepare, Promise, Accept, Voted, Higher, Known}
use Rattle.acceptor.specs.Content.{no_content, after_write}
use Rattle.acceptor.specs.Faults.{HasRisen}
use Rattle.node.specs.View.{View, Standing, started, gapless}
use Rattle.node.specs.View.Standing.{Running, Stopped}
use Rattle.proposer.specs.Turns.{Turn, is_counted}
use Rattle.proposer.specs.declared.role.Role.{Role}
use Rattle.proposer.specs.declared.fault.NodeFault.{NodeFault as Fault}
use Rattle.proposer.specs.declared.fault.NodeFault.TheVariants.{OutOfMemory, StoreRefused, Down}
use Rattle.node.specs.Step.{Outcome, receive, offer, tell, Leads}

-- a node by its number, the number of members, how often its store failed, whether that is broken, and whether the node
-- waits for a restart
pub record Who : Type 0 where
  pub id : ℕ
  pub members : ℕ
  pub failures : ℕ
  pub broken : Bool
  pub down : Bool

-- what a node is asked
pub data Cause : Type 0 where
  Receive : Letter → Cause
  Lead : Cause
  Offer : (value : List ℕ) → Cause
  Tell : (to place : ℕ) → Cause

-- the course of a whole call of node me
abbrev pub Course : ℕ → ℕ → View → Cause → Result Outcome Fault → Type 0
Course members me view (Receive l) course = course ≡ Ok (receive members me view l)
Course members me view Lead course = Leads members me view course
Course members me view (Offer v) course = course ≡ offer members me view view.role v
Course members me view (Tell n q) course = course ≡ Ok (tell members me view n q)

-- the letters of a call that was answered
abbrev pub answer : Result (Vec Letter Global) Fault → Result (List Letter) Fault
answer (Ok letters) = Ok letters.items
answer (Err fault) = Err fault

-- a call of a running node ends so. Want of memory and a store that refused change nothing, a broken store leaves the
-- node down, the one write of the call there or not, and any other fault is the case's
abbrev pub CallEnds : (Result Outcome Fault → Type 0) → View → Result (List Letter) Fault → Standing → Type 0
CallEnds IsCourse view (Ok letters) new = (o : Outcome) × IsCourse (Ok o) × (letters ≡ o.letters) × (new ≡ Running o.view)
CallEnds IsCourse view (Err OutOfMemory) new = new ≡ Running view
CallEnds IsCourse view (Err StoreRefused) new = new ≡ Running view
CallEnds IsCourse view (Err Down) new = (new ≡ Stopped view.content None) ⊎ ((o : Outcome) × IsCourse (Ok o) × (new ≡ Stopped view.content o.write))
CallEnds IsCourse view (Err declined) new = IsCourse (Err declined) × (new ≡ Running view)

-- a call of node me, and where the node then stands. One that is down answers so and changes nothing
abbrev pub Called : ℕ → ℕ → Standing → Cause → Result (List Letter) Fault → Standing → Type 0
Called members me (Running view) cause result new = CallEnds (Course members me view cause) view result new
Called members me (Stopped c doubt) cause result new = (result ≡ Err Down) × (new ≡ Stopped c doubt)

-- a letter from node n says nothing new to a node with this role and these learned values: a higher ballot, a promise
-- that isn't counted, or a value at a place that is learned
abbrev pub IsNothingNew : Role → List (ℕ × List ℕ) → ℕ → Note → Type 0
IsNothingNew role learned n (Higher b) = Unit {0}
IsNothingNew role learned n (Promise b q votes) = is_counted role b q n ≡ false
IsNothingNew role learned n (Voted b p v) = at learned p ≢ None
IsNothingNew role learned n (Known p v) = at learned p ≢ None
IsNothingNew role learned n (Prepare b q) = ⊥
IsNothingNew role learned n (Accept b p v) = ⊥

-- a call that writes nothing fails so
abbrev pub StoreFails : View → Fault → Standing → Type 0
StoreFails view OutOfMemory new = new ≡ Running view
StoreFails view StoreRefused new = new ≡ Running view
StoreFails view Down new = new ≡ Stopped view.content None
StoreFails view other new = ⊥

-- want of memory, or a store that failed
abbrev pub IsStop : Fault → Type 0
IsStop OutOfMemory = Unit {0}
IsStop StoreRefused = Unit {0}
IsStop Down = Unit {0}
IsStop other = ⊥

-- nothing that node me knows without its records declines the call
abbrev pub MayGoOn : ℕ → ℕ → View → Cause → Type 0
MayGoOn members me view (Receive l) = Unit {0}
MayGoOn members me view Lead = length (gapless view) < most_places
MayGoOn members me view (Offer v) = IsTrue (is_ok (offer members me view view.role v))
MayGoOn members me view (Tell n q) = Unit {0}

-- want of memory and a store that fails come last: only where the call isn't declined
abbrev pub StopsLast : ℕ → ℕ → View → Cause → Result (List Letter) Fault → Type 0
StopsLast members me view cause (Ok letters) = Unit {0}
StopsLast members me view cause (Err fault) = IsStop fault → MayGoOn members me view cause

-- a restart starts over what the records hold, a write in doubt made or not
abbrev pub Restarts : Standing → Result (Unit {0}) Fault → Standing → Type 0
Restarts (Running view) (Ok _) new = new ≡ Running (started view.content)
Restarts (Stopped c doubt) (Ok _) new = (new ≡ Running (started c)) ⊎ (new ≡ Running (started (after_write c doubt)))
Restarts (Running view) (Err fault) new = StoreFails view fault new
Restarts (Stopped c doubt) (Err fault) new = IsStop fault × (new ≡ Stopped c doubt)

-- a node is fresh where it has nothing in its records and has heard nothing
abbrev pub TellsFresh : Standing → Result Bool Fault → Standing → Type 0
TellsFresh (Running view) (Ok fresh) new = (IsTrue fresh ↔ (view ≡ started no_content)) × (new ≡ Running view)
TellsFresh (Running view) (Err fault) new = StoreFails view fault new
TellsFresh (Stopped c doubt) result new = (result ≡ Err Down) × (new ≡ Stopped c doubt)

-- the store failed in a call
abbrev pub StoreFailed : Who → Who → Type 0
StoreFailed old new = HasRisen old.failures new.failures

-- the store didn't fail
abbrev pub StoreServed : Who → Who → Type 0
StoreServed old new = (new.failures ≡ old.failures) × (new.broken ≡ old.broken)

-- StoreRefused comes exactly where the store failed and isn't broken, Down where it is broken now or where the node was
-- down, and anything else where it didn't fail
abbrev pub TellsStore : {T : Type 0} → Who → Result T Fault → Who → Type 0
TellsStore old (Err StoreRefused) new = StoreFailed old new × (new.broken ≡ false)
TellsStore old (Err Down) new = (StoreFailed old new × (new.broken ≡ true)) ⊎ ((old.down ≡ true) × StoreServed old new)
TellsStore old other new = StoreServed old new

-- the store is broken no more, or as it was
abbrev pub MayBeMended : Who → Who → Type 0
MayBeMended old new = (new.broken ≡ false) ⊎ (new.broken ≡ old.broken)

-- the same of a restart, which mends a broken store where it is Ok, and may have mended it where it failed as it read
-- what was learned
abbrev pub TellsStoreOfRestart : {T : Type 0} → Who → Result T Fault → Who → Type 0
TellsStoreOfRestart old (Ok _) new = (new.failures ≡ old.failures) × (new.broken ≡ false)
TellsStoreOfRestart old (Err StoreRefused) new = StoreFailed old new × MayBeMended old new
TellsStoreOfRestart old (Err Down) new = StoreFailed old new × (new.broken ≡ true)
TellsStoreOfRestart old (Err other) new = (new.failures ≡ old.failures) × MayBeMended old new

-- a node is down after the fault Down, and else as it was
abbrev pub down_after : {T : Type 0} → Result T Fault → Bool → Bool
down_after (Ok _) was = was
down_after (Err Down) was = true
down_after (Err other) was = was

-- after a restart that is Ok it is not
abbrev pub down_after_restart : {T : Type 0} → Result T Fault → Bool → Bool
down_after_restart (Ok _) was = false
down_after_restart (Err Down) was = true
down_after_restart (Err other) was = was

-- what each call owes whatever its store does: who it is stays, and its answer tells what the store did
abbrev pub Kept : {T : Type 0} → Who → Result T Fault → Who → Type 0
Kept old result new =
    (new.id ≡ old.id) × (new.members ≡ old.members) × (old.failures ≤ new.failures)
    × TellsStore old result new × (new.down ≡ down_after result old.down)

-- the same of a restart
abbrev pub KeptByRestart : {T : Type 0} → Who → Result T Fault → Who → Type 0
KeptByRestart old result new =
    (new.id ≡ old.id) × (new.members ≡ old.members) × (old.failures ≤ new.failures)
    × TellsStoreOfRestart old result new × (new.down ≡ down_after_restart result old.down)

-- an offer to a node that is up is answered by its proposer's turn. Only want of memory comes beside what the turn says
abbrev pub TakesTurn : Result Turn Fault → Result (List Letter) Fault → Type 0
TakesTurn (Ok turn) (Ok letters) = letters ≡ turn.letters
TakesTurn (Ok turn) (Err fault) = fault ≡ OutOfMemory
TakesTurn (Err declined) result = result ≡ Err declined
