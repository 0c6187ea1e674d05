-- Records and modems, read as a run of the written world.
use Rattle.std.specs.Prelude.{◌≡◌, ℕ, ◌<◌, List, [], ◌∷◌, ◌++◌, length, map, slice_get, Some}
use Rattle.ballots.specs.declared.letters.Letter.{Letter}
use Rattle.grant_machine.specs.declared.output.Output.{Output}
use Rattle.modem.specs.State.{State}
use Rattle.world_events.specs.declared.event.Event.{Event}
use Rattle.world_events.specs.declared.event.Event.TheVariants as event
use Rattle.seats.specs.declared.answer.Answer.{Answer}
use Rattle.seats.specs.declared.answer.Answer.TheVariants as answer
use Rattle.seats.specs.declared.answer.ReleasedOutput.{ReleasedOutput}
use Rattle.seats.specs.declared.answer.Transmission.{Transmission}
use Rattle.modem.specs.Held.{unicast_sid}
use Rattle.command_log.specs.Values.{Owner}
use Rattle.network_script.specs.Along.{Along}
use Rattle.network_script.specs.World.{Written}
use Rattle.seats.specs.Receiver.{Receiver, new_receiver}
use Rattle.seats.specs.Modems.{ModemNext, sent_at}
use Rattle.seats.specs.Receiving.{AreReceivers}
use Rattle.network_script.specs.Next.{Run}
use Rattle.network_script.specs.Headline.{FollowsOneSchedule}
use Rattle.node_worker.specs.declared.entry.Ask.TheVariants.{Lead, Offer, Tell, Release, Crash, Restart}
use Rattle.node_worker.specs.declared.entry.Cause.{Cause}
use Rattle.node_worker.specs.declared.entry.Cause.TheVariants.{Ask as Asked, Letter as Came}
use Rattle.node_worker.specs.declared.entry.Done.{Done}
use Rattle.node_worker.specs.Legal.{IsSound, entries_of, letters_of, outputs_of}
use Rattle.node.specs.View.{Standing}
use Rattle.node_worker.specs.Replays.{ReplaysTo, answer_of}

-- a cause at node k is this event, after these letters were sent: a letter that comes is one of them that is to the
-- node
abbrev pub IsEvent : List Letter → ℕ → Cause → Event → Type 0
IsEvent sent k (Asked Lead) e = e ≡ event.Lead k
IsEvent sent k (Asked (Offer value)) e = e ≡ event.Offer k value
IsEvent sent k (Asked (Tell to place)) e = e ≡ event.Tell k to place
IsEvent sent k (Asked (Release now)) e = e ≡ event.Release k now
IsEvent sent k (Asked Crash) e = e ≡ event.Crash k
IsEvent sent k (Asked Restart) e = e ≡ event.Restart k
IsEvent sent k (Came l) e = (i : ℕ) × (slice_get sent i ≡ Some l) × (l.to ≡ k) × (e ≡ event.Deliver i)

-- the events of nodes among these are the records, in their order
abbrev pub ReadAs : List Letter → List Done → List Event → List Answer → Type 0
ReadAs sent records [] [] = records ≡ []
ReadAs sent records (event.Hear m i near ∷ events) (told ∷ answers) = ReadAs sent records events answers
ReadAs sent records (event.Want m ch sid n ∷ events) (told ∷ answers) = ReadAs sent records events answers
ReadAs sent records (event.Tick m ch slot random ∷ events) (told ∷ answers) = ReadAs sent records events answers
ReadAs sent [] (e ∷ events) (told ∷ answers) = ⊥
ReadAs sent (d ∷ records) (e ∷ events) (told ∷ answers) =
    IsEvent sent d.node d.entry.cause e × (told ≡ answer_of d.entry.cause d.entry.ended d.entry.letters d.entry.outputs) × ReadAs (sent ++ d.entry.letters) records events answers
ReadAs sent records events answers = ⊥

-- records, read as events in their order, and what the modems did in between, are a run of so many nodes and modems
-- with these ids, in which the modems sent this
pub record IsRun (members : ℕ) (ids : List ℕ) (records : List Done) (modems : List State) (sent : List Transmission) : Type 0 where
  pub script : List Event
  pub report : List Answer
  pub world : Written
  pub read : ReadAs [] records script report
  pub run : Run members ids script report world
  pub letters : world.letters ≡ letters_of records
  pub outputs : world.outputs ≡ outputs_of records
  pub hold : AreReceivers modems world.modems
  pub transmissions : world.transmissions ≡ sent
  -- each node stands where its records bring a fresh one
  pub nodes : (k : ℕ) → k < members → (s : Standing) × (slice_get world.nodes k ≡ Some s) × ReplaysTo members k (entries_of k records) s

-- a modem's event, which hears none but these outputs
abbrev pub IsOfModem : ℕ → Event → Type 0
IsOfModem outputs (event.Hear m i near) = i < outputs
IsOfModem outputs (event.Want m ch sid n) = Unit {0}
IsOfModem outputs (event.Tick m ch slot random) = Unit {0}
IsOfModem outputs other = ⊥

-- a modem's event
abbrev pub IsModemEvent : Event → Type 0
IsModemEvent (event.Hear m i near) = Unit {0}
IsModemEvent (event.Want m ch sid n) = Unit {0}
IsModemEvent (event.Tick m ch slot random) = Unit {0}
IsModemEvent other = ⊥

-- a modem comes to a minislot
abbrev pub IsTick : Event → Type 0
IsTick (event.Tick m ch slot random) = Unit {0}
IsTick other = ⊥

-- an event of a modem, where these outputs were released
abbrev pub ListensNext : List ReleasedOutput → List Receiver → Event → Answer → List Receiver → Type 0
ListensNext outputs rs e told rs' = IsOfModem (length outputs) e × ModemNext rs outputs e told rs'

-- modems' events, one after another
abbrev pub ListensAlong : List ReleasedOutput → List Receiver → List Event → List Answer → List Receiver → Type 0
ListensAlong outputs = Along (ListensNext outputs)

-- what modems sent at their events
abbrev pub sent_by : List Event → List Answer → List Transmission
sent_by (e ∷ events) (told ∷ answers) = sent_at e told ++ sent_by events answers
sent_by events answers = []

-- new modems with these ids have come to this by events of theirs, and sent this
pub record HaveListened (ids : List ℕ) (outputs : List ReleasedOutput) (modems : List State) (sent : List Transmission) : Type 0 where
  pub events : List Event
  pub answers : List Answer
  pub receivers : List Receiver
  pub listened : ListensAlong outputs (map new_receiver ids) events answers receivers
  pub hold : AreReceivers modems receivers
  pub sends : sent ≡ sent_by events answers

-- the same, whoever they are and whatever they sent
abbrev pub Listened : List ReleasedOutput → List State → Type 0
Listened outputs modems = (ids : List ℕ) × (sent : List Transmission) × HaveListened ids outputs modems sent

-- sound records and modems that listened to their outputs are a run
abbrev pub SoundIsRun : Type 0
SoundIsRun =
    (members : ℕ) (ids : List ℕ) (records : List Done) (modems : List State) (sent : List Transmission)
    → IsSound members records → HaveListened ids (outputs_of records) modems sent → IsRun members ids records modems sent

-- records and modems are legal: each node's records are a replay and letters come after they were sent; read as events
-- they are a run; and so they have one schedule, with all that holds of a run
pub record AreLegal (members : ℕ) (records : List Done) (modems : List State) : Type 0 where
  pub sound : IsSound members records
  pub ids : List ℕ
  pub sent : List Transmission
  pub run : IsRun members ids records modems sent
  pub named : (j : ℕ) (v : State) → slice_get modems j ≡ Some v → slice_get ids j ≡ Some v.id
  pub values : List (List ℕ)
  pub follows : FollowsOneSchedule members ids run.world values

-- sound records and modems that listened to their outputs are legal
abbrev pub SoundIsLegal : Type 0
SoundIsLegal = (members : ℕ) (records : List Done) (modems : List State) → IsSound members records → Listened (outputs_of records) modems → AreLegal members records modems

-- the records and modems are legal, and modem m is the one owner of a minislot of a channel
pub record IsOwned (members : ℕ) (records : List Done) (modems : List State) (m ch slot : ℕ) : Type 0 where
  pub legal : AreLegal members records modems
  pub modem : State
  pub there : slice_get modems m ≡ Some modem
  pub owns : Owner legal.values ch slot modem.id
  pub alone : (other : ℕ) → Owner legal.values ch slot other → other ≡ modem.id

-- a modem sends by a grant or at a poll only where it is the minislot's one owner
abbrev pub SendsAsOwner : ℕ → List Done → List State → Event → Answer → Type 0
SendsAsOwner members records modems (event.Tick m ch slot random) (answer.Ticked (Some sending)) = (sid : ℕ) → unicast_sid (Some sending) ≡ Some sid → IsOwned members records modems m ch slot
SendsAsOwner members records modems e told = Unit {0}

-- nothing is sent
abbrev pub IsSilent : Answer → Type 0
IsSilent (answer.Refused refusal) = Unit {0}
IsSilent told = ⊥

-- number i of the outputs that the records released is this
abbrev pub IsOutputAt : List Done → ℕ → Output → Type 0
IsOutputAt records i output = (x : ReleasedOutput) × (slice_get (outputs_of records) i ≡ Some x) × (x.numbered.output ≡ output)
