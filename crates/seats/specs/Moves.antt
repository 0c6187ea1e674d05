-- What one event does to one node: where it stands then, what it sent and released, and its one write.
use Rattle.std.specs.Prelude.{◌≡◌, ◌≢◌, ◌⊎◌, ℕ, List, [], length, Option, None, Result, Ok, Err}
use Rattle.ballots.specs.declared.letters.Letter.{Letter}
use Rattle.acceptor.specs.Content.{Content, Write, after_write}
use Rattle.map_release.specs.declared.numbered.Numbered.{Numbered}
use Rattle.node.specs.View.{View, Standing, started}
use Rattle.node.specs.View.Standing.{Running, Stopped}
use Rattle.node.specs.Calls.{Cause, Course, IsStop, MayGoOn}
use Rattle.node.specs.Calls.Cause.{Receive}
use Rattle.node.specs.Step.{Outcome, nothing}
use Rattle.proposer.specs.declared.fault.NodeFault.{NodeFault}
use Rattle.proposer.specs.declared.fault.NodeFault.TheVariants as fault
use Rattle.seats.specs.declared.answer.Answer.{Answer}
use Rattle.seats.specs.declared.answer.Answer.TheVariants.{Sent, Finished, Released, Refused, Fault, Crashed}
use Rattle.world_events.specs.declared.refusal.EventRefusal.TheVariants.{NodeDown, NodeUp}
use Rattle.seats.specs.Release.{released, released_all}

-- what an event asks of a node: a call whose letters are sent, to take a letter and then crash, a release at a time, a
-- crash, or a restart
pub data Ask : Type 0 where
  Call : Cause → Ask
  TakeThenCrash : Letter → Ask
  Release : (now : ℕ) → Ask
  Crash : Ask
  Restart : Ask

-- where a node stands after an event, what it sent and released, and the write that it surely made
pub record Move : Type 0 where
  pub standing : Standing
  pub letters : List Letter
  pub outputs : List Numbered
  pub write : Option Write

-- it stands so, and that is all
abbrev pub quiet : Standing → Move
quiet s = record { standing = s; letters = []; outputs = []; write = None }

-- a whole call
abbrev pub whole : Outcome → Move
whole o = record { standing = Running o.view; letters = o.letters; outputs = []; write = o.write }

-- a whole call whose letters are lost, and then a crash
abbrev pub lost : Outcome → Move
lost o = record { standing = Stopped o.view.content None; letters = []; outputs = []; write = o.write }

-- a release of all that it can
abbrev pub gives : View → ℕ → Move
gives view now = record { standing = Running (released_all view); letters = []; outputs = released view now; write = None }

-- the event is answered so, and the node stands where it stood
abbrev pub Stays : Standing → Answer → Answer → Move → Type 0
Stays s told answer m = (answer ≡ told) × (m ≡ quiet s)

-- a call of a node that was up with this view gives a fault. Want of memory and a store that refused are a crash before
-- the call's write, a broken store is a crash with that write in doubt, if it came to it, and any other fault is the
-- case's and changes nothing
abbrev pub Fails : View → (Result Outcome NodeFault → Type 0) → NodeFault → Move → Type 0
Fails view IsCourse fault.OutOfMemory m = m ≡ quiet (Stopped view.content None)
Fails view IsCourse fault.StoreRefused m = m ≡ quiet (Stopped view.content None)
Fails view IsCourse fault.Down m =
    (m ≡ quiet (Stopped view.content None)) ⊎ ((o : Outcome) × IsCourse (Ok o) × (m ≡ quiet (Stopped view.content o.write)))
Fails view IsCourse declined m = IsCourse (Err declined) × (m ≡ quiet (Running view))

-- a call ends so: its letters are sent, or there is no room for them, they are lost and the node crashes, or it fails
abbrev pub Ends : View → (Result Outcome NodeFault → Type 0) → Answer → Move → Type 0
Ends view IsCourse (Sent n) m = (o : Outcome) × IsCourse (Ok o) × (n ≡ length o.letters) × (m ≡ whole o)
Ends view IsCourse Crashed m = (o : Outcome) × IsCourse (Ok o) × (o.letters ≢ []) × (m ≡ lost o)
Ends view IsCourse (Fault fault) m = Fails view IsCourse fault m
Ends view IsCourse answer m = ⊥

-- a call whose letters are thrown away, and after which the node crashes
abbrev pub EndsInCrash : View → (Result Outcome NodeFault → Type 0) → Answer → Move → Type 0
EndsInCrash view IsCourse Finished m = (o : Outcome) × IsCourse (Ok o) × (m ≡ lost o)
EndsInCrash view IsCourse (Fault fault) m = Fails view IsCourse fault m
EndsInCrash view IsCourse answer m = ⊥

-- want of memory and a store that failed are told last: only where nothing that node me knows without its records
-- declines the call
abbrev pub IsToldLast : ℕ → ℕ → View → Cause → Answer → Type 0
IsToldLast members me view cause (Fault fault) = IsStop fault → MayGoOn members me view cause
IsToldLast members me view cause answer = Unit {0}

-- it releases, or there is no room for what it released, which is lost, and it crashes, or it fails, having written
-- nothing
abbrev pub Releases : View → ℕ → Answer → Move → Type 0
Releases view now (Released n) m = (n ≡ length (released view now)) × (m ≡ gives view now)
Releases view now Crashed m = (released view now ≢ []) × (m ≡ quiet (Stopped view.content None))
Releases view now (Fault fault) m = Fails view (λ course. course ≡ Ok (nothing (released_all view))) fault m
Releases view now answer m = ⊥

-- a restart over what a crash left: a write in doubt was made, or it was not. One that fails leaves the node down as it
-- was
abbrev pub Starts : Content → Option Write → Answer → Move → Type 0
Starts c doubt Finished m =
    (m ≡ quiet (Running (started c)))
    ⊎ (m ≡ record { standing = Running (started (after_write c doubt)); letters = []; outputs = []; write = doubt })
Starts c doubt (Fault fault) m = IsStop fault × (m ≡ quiet (Stopped c doubt))
Starts c doubt answer m = ⊥

-- node me of so many members, up with this view. A crash leaves its content, which is all that it wrote
abbrev pub MovesUp : ℕ → ℕ → View → Ask → Answer → Move → Type 0
MovesUp members me view (Call cause) answer m = IsToldLast members me view cause answer × Ends view (Course members me view cause) answer m
MovesUp members me view (TakeThenCrash l) answer m = EndsInCrash view (Course members me view (Receive l)) answer m
MovesUp members me view (Release now) answer m = Releases view now answer m
MovesUp members me view Crash answer m = Stays (Stopped view.content None) Finished answer m
MovesUp members me view Restart answer m = Stays (Running view) (Refused NodeUp) answer m

-- a node that crashed
abbrev pub MovesDown : Content → Option Write → Ask → Answer → Move → Type 0
MovesDown c doubt Restart answer m = Starts c doubt answer m
MovesDown c doubt other answer m = Stays (Stopped c doubt) (Refused NodeDown) answer m

-- node me of so many members, which stands so, may be answered so where it is asked, and moves so
abbrev pub Moves : ℕ → ℕ → Standing → Ask → Answer → Move → Type 0
Moves members me (Running view) ask answer m = MovesUp members me view ask answer m
Moves members me (Stopped c doubt) ask answer m = MovesDown c doubt ask answer m
