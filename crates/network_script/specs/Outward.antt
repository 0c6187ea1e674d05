-- What is seen of a world without its nodes' content, and what each event does to it. It holds whether or not records
-- are honest.
use Rattle.std.specs.Prelude.{◌≡◌, ℕ, List, ◌++◌, Option, Some, None, length, map, slice_get, slice_set}
use Rattle.ballots.specs.declared.letters.Letter.{Letter}
use Rattle.map_release.specs.declared.numbered.Numbered.{Numbered}
use Rattle.node.specs.declared.node.Node.{Ghosts}
use Rattle.world_events.specs.declared.event.Event.{Event}
use Rattle.world_events.specs.declared.event.Event.TheVariants.{Lead, Offer, Tell, Deliver, DeliverThenCrash, Crash}
use Rattle.world_events.specs.declared.event.Event.TheVariants.{Restart, Release, Hear, Want, Tick}
use Rattle.seats.specs.declared.answer.Answer.{Answer}
use Rattle.seats.specs.declared.answer.Answer.TheVariants.{Refused}
use Rattle.world_events.specs.declared.refusal.EventRefusal.TheVariants.{NoLetter, NoNode}
use Rattle.node.specs.Calls.Cause.{Lead as AskedToLead, Offer as Offered, Receive as Received, Tell as AskedToTell}
use Rattle.seats.specs.Acts.{AnswersAsOwed}
use Rattle.seats.specs.Moves.{Ask}
use Rattle.seats.specs.Moves.Ask.{Call, TakeThenCrash, Release as ReleaseAt, Crash as CrashNow, Restart as StartAgain}
use Rattle.seats.specs.declared.answer.ReleasedOutput.{ReleasedOutput}
use Rattle.seats.specs.declared.answer.Transmission.{Transmission}
use Rattle.seats.specs.Modems.{ModemNext, sent_at}
use Rattle.seats.specs.Owes.{Outside, outside}
use Rattle.seats.specs.Receiver.{Receiver}
use Rattle.seats.specs.Receiving.{Hold}
use Rattle.network_script.specs.declared.world.World.{World}
use Rattle.network_script.specs.World.{released_by}
use Rattle.network_script.specs.Along.{Along}
use Rattle.network_script.specs.Worlds.{seats_of, letters_of, outputs_of, receivers_of, transmissions_of}

pub record Outward : Type 0 where
  -- what is seen of each node, by number
  pub nodes : List Outside
  -- what was sent and released, in order
  pub letters : List Letter
  pub outputs : List ReleasedOutput
  -- the modems, and what they sent, in order
  pub modems : List Receiver
  pub transmissions : List Transmission

-- a world from without, where its modems are these
abbrev pub outward : {N : Type 0} {g : Ghosts N} → World N g → List Receiver → Outward
outward world modems = record {
  nodes = map outside (seats_of world);
  letters = letters_of world;
  outputs = outputs_of world;
  modems = modems;
  transmissions = transmissions_of world;
}

-- the event is answered so, and nothing changes
abbrev pub Still : Outward → Answer → Answer → Outward → Type 0
Still o told answer o' = (answer ≡ told) × (o' ≡ o)

-- node k, if there is one, is asked so: it answers as a node that is seen so may, and what it sends and releases is
-- added
abbrev pub SeenOfNode : Outward → ℕ → Option Outside → Ask → Answer → Outward → Type 0
SeenOfNode o k None ask answer o' = Still o (Refused NoNode) answer o'
SeenOfNode o k (Some was) ask answer o' =
    (is : Outside) × (sent : List Letter) × (released : List Numbered) × AnswersAsOwed (length o.nodes) k was ask answer sent released is
    × (o' ≡ record o { nodes = slice_set o.nodes k is; letters = o.letters ++ sent; outputs = o.outputs ++ released_by k released })

-- a letter, if there is one, comes to the node that it is to, of which it asks so
abbrev pub SeenToCome : Outward → Option Letter → (Letter → Ask) → Answer → Outward → Type 0
SeenToCome o None ask answer o' = Still o (Refused NoLetter) answer o'
SeenToCome o (Some l) ask answer o' = SeenOfNode o l.to (slice_get o.nodes l.to) (ask l) answer o'

-- a modem's event changes the modems, and what they send is noted
abbrev pub OfModems : Outward → Event → Answer → Outward → Type 0
OfModems o event answer o' =
    (modems : List Receiver) × ModemNext o.modems o.outputs event answer modems
    × (o' ≡ record o { modems = modems; transmissions = o.transmissions ++ sent_at event answer })

-- the event may be answered so, and leaves that
abbrev pub SeenNext : Outward → Event → Answer → Outward → Type 0
SeenNext o (Lead k) answer o' = SeenOfNode o k (slice_get o.nodes k) (Call AskedToLead) answer o'
SeenNext o (Offer k value) answer o' = SeenOfNode o k (slice_get o.nodes k) (Call (Offered value)) answer o'
SeenNext o (Tell k to place) answer o' = SeenOfNode o k (slice_get o.nodes k) (Call (AskedToTell to place)) answer o'
SeenNext o (Deliver i) answer o' = SeenToCome o (slice_get o.letters i) (λ l. Call (Received l)) answer o'
SeenNext o (DeliverThenCrash i) answer o' = SeenToCome o (slice_get o.letters i) TakeThenCrash answer o'
SeenNext o (Crash k) answer o' = SeenOfNode o k (slice_get o.nodes k) CrashNow answer o'
SeenNext o (Restart k) answer o' = SeenOfNode o k (slice_get o.nodes k) StartAgain answer o'
SeenNext o (Release k now) answer o' = SeenOfNode o k (slice_get o.nodes k) (ReleaseAt now) answer o'
SeenNext o (Hear m i near) answer o' = OfModems o (Hear m i near) answer o'
SeenNext o (Want m ch sid n) answer o' = OfModems o (Want m ch sid n) answer o'
SeenNext o (Tick m ch slot random) answer o' = OfModems o (Tick m ch slot random) answer o'

-- these events may be answered so, one after another
abbrev pub SeenRun : Outward → List Event → List Answer → Outward → Type 0
SeenRun = Along SeenNext

-- an event, from whatever modems the world may hold
abbrev pub Seen : {N : Type 0} {g : Ghosts N} → World N g → Event → Answer → World N g → Type 0
Seen old event answer new =
    (modems : List Receiver) → Hold (receivers_of old) modems
    → (after : List Receiver) × SeenNext (outward old modems) event answer (outward new after) × Hold (receivers_of new) after

-- events, likewise
abbrev pub SeenAll : {N : Type 0} {g : Ghosts N} → World N g → List Event → List Answer → World N g → Type 0
SeenAll old events answers new =
    (modems : List Receiver) → Hold (receivers_of old) modems
    → (after : List Receiver) × SeenRun (outward old modems) events answers (outward new after) × Hold (receivers_of new) after
