-- What each event does to the written world, by cases, and whole runs.
use Rattle.std.specs.Prelude.{◌≡◌, ℕ, Bool, true, false, List, ◌++◌, Option, Some, None, slice_get, slice_set}
use Rattle.ballots.specs.declared.letters.Letter.{Letter}
use Rattle.acceptor.specs.Content.{record_write}
use Rattle.node.specs.View.{Standing}
use Rattle.node.specs.Calls.Cause.{Lead as AskedToLead, Offer as Offered, Receive as Received, Tell as AskedToTell}
use Rattle.world_events.specs.declared.event.Event.{Event}
use Rattle.world_events.specs.declared.event.Event.TheVariants.{Lead, Offer, Tell, Deliver, DeliverThenCrash, Crash}
use Rattle.world_events.specs.declared.event.Event.TheVariants.{Restart, Release, Hear, Want, Tick}
use Rattle.seats.specs.declared.answer.Answer.{Answer}
use Rattle.seats.specs.declared.answer.Answer.TheVariants.{Refused}
use Rattle.world_events.specs.declared.refusal.EventRefusal.TheVariants.{NoLetter, NoNode}
use Rattle.seats.specs.Moves.{Ask, Move, Moves}
use Rattle.seats.specs.Moves.Ask.{Call, TakeThenCrash, Release as ReleaseAt, Crash as CrashNow, Restart as StartAgain}
use Rattle.seats.specs.Receiver.{Receiver}
use Rattle.seats.specs.Modems.{ModemNext, sent_at}
use Rattle.network_script.specs.World.{Written, released_by, opening}
use Rattle.network_script.specs.Along.{Along}

-- the event is answered so, and nothing changes
abbrev pub Unmoved : Written → Answer → Answer → Written → Type 0
Unmoved w told answer w' = (answer ≡ told) × (w' ≡ w)

-- the world after node k moved so: its letters, outputs and write are added to what there was
abbrev pub after : Written → ℕ → Move → Written
after w k m = record w {
  nodes = slice_set w.nodes k m.standing;
  letters = w.letters ++ m.letters;
  outputs = w.outputs ++ released_by k m.outputs;
  history = record_write k m.write w.history;
}

-- node k, if there is one, is asked so
abbrev pub OfNode : ℕ → Written → ℕ → Option Standing → Ask → Answer → Written → Type 0
OfNode members w k None ask answer w' = Unmoved w (Refused NoNode) answer w'
OfNode members w k (Some s) ask answer w' = (m : Move) × Moves members k s ask answer m × (w' ≡ after w k m)

-- what a letter asks, that is taken before a crash or is not
abbrev pub taking : Bool → Letter → Ask
taking true l = TakeThenCrash l
taking false l = Call (Received l)

-- a letter, if there is one, comes to the node that it is to, of which it asks so
abbrev pub Comes : ℕ → Written → Option Letter → (Letter → Ask) → Answer → Written → Type 0
Comes members w None ask answer w' = Unmoved w (Refused NoLetter) answer w'
Comes members w (Some l) ask answer w' = OfNode members w l.to (slice_get w.nodes l.to) (ask l) answer w'

-- a modem's event changes the modems, and what they send is noted
abbrev pub OnModems : Written → Event → Answer → Written → Type 0
OnModems w event answer w' =
    (modems : List Receiver) × ModemNext w.modems w.outputs event answer modems
    × (w' ≡ record w { modems = modems; transmissions = w.transmissions ++ sent_at event answer })

-- in this world of so many members the event may be answered so, and leave that world
abbrev pub Next : ℕ → Written → Event → Answer → Written → Type 0
Next members w (Lead k) answer w' = OfNode members w k (slice_get w.nodes k) (Call AskedToLead) answer w'
Next members w (Offer k value) answer w' = OfNode members w k (slice_get w.nodes k) (Call (Offered value)) answer w'
Next members w (Tell k to place) answer w' = OfNode members w k (slice_get w.nodes k) (Call (AskedToTell to place)) answer w'
Next members w (Deliver i) answer w' = Comes members w (slice_get w.letters i) (λ l. Call (Received l)) answer w'
Next members w (DeliverThenCrash i) answer w' = Comes members w (slice_get w.letters i) TakeThenCrash answer w'
Next members w (Crash k) answer w' = OfNode members w k (slice_get w.nodes k) CrashNow answer w'
Next members w (Restart k) answer w' = OfNode members w k (slice_get w.nodes k) StartAgain answer w'
Next members w (Release k now) answer w' = OfNode members w k (slice_get w.nodes k) (ReleaseAt now) answer w'
Next members w (Hear m i near) answer w' = OnModems w (Hear m i near) answer w'
Next members w (Want m ch sid n) answer w' = OnModems w (Want m ch sid n) answer w'
Next members w (Tick m ch slot random) answer w' = OnModems w (Tick m ch slot random) answer w'

-- in a world of so many members these events may be answered so, one after another
abbrev pub Goes : ℕ → Written → List Event → List Answer → Written → Type 0
Goes members = Along (Next members)

-- a script over so many fresh nodes and modems with these ids may give this report, and leave this world
abbrev pub Run : ℕ → List ℕ → List Event → List Answer → Written → Type 0
Run members ids script report w = Goes members (opening members ids) script report w
