-- Which written worlds a world stands for.
use Rattle.std.specs.Prelude.{◌≡◌, ℕ, List, length}
use Rattle.ballots.specs.declared.letters.Letter.{Letter}
use Rattle.ballots.specs.Voting.{Entry}
use Rattle.node.specs.declared.node.Node.{Ghosts}
use Rattle.node.specs.View.{Standing}
use Rattle.world_events.specs.declared.event.Event.{Event}
use Rattle.seats.specs.declared.answer.Answer.{Answer}
use Rattle.seats.specs.declared.answer.ReleasedOutput.{ReleasedOutput}
use Rattle.seats.specs.declared.answer.Transmission.{Transmission}
use Rattle.seats.specs.declared.receivers.Receivers.{Receivers}
use Rattle.seats.specs.declared.seat.Seat.{Seat}
use Rattle.network_script.specs.declared.world.World.{World}
use Rattle.network_script.specs.Seats.{AllHonest, AreStandings}
use Rattle.network_script.specs.World.{Written}
use Rattle.seats.specs.Receiver.{Receiver}
use Rattle.seats.specs.Receiving.{Hold, sent_by}
use Rattle.network_script.specs.Next.{Next}

-- the nodes of a world, each in its seat, by number
abbrev pub seats_of : {N : Type 0} {g : Ghosts N} → World N g → List (Seat N g)
seats_of world = world.seats.items

-- every letter that was ever sent, in order
abbrev pub letters_of : {N : Type 0} {g : Ghosts N} → World N g → List Letter
letters_of world = world.letters.items

-- every output that a node released, in order
abbrev pub outputs_of : {N : Type 0} {g : Ghosts N} → World N g → List ReleasedOutput
outputs_of world = world.outputs.items

-- its modems, and what they sent
abbrev pub receivers_of : {N : Type 0} {g : Ghosts N} → World N g → Receivers
receivers_of world = world.receivers

-- what its modems sent, in order
abbrev pub transmissions_of : {N : Type 0} {g : Ghosts N} → World N g → List Transmission
transmissions_of world = sent_by (receivers_of world)

-- the records of each of its nodes have returned what they committed
abbrev pub AreHonest : {N : Type 0} {g : Ghosts N} → World N g → Type 0
AreHonest world = AllHonest (seats_of world)

-- how many nodes it has
abbrev pub node_count : {N : Type 0} {g : Ghosts N} → World N g → ℕ
node_count world = length (seats_of world)

-- the written world of these nodes, modems and this history: the rest is the world's
abbrev pub written : {N : Type 0} {g : Ghosts N} → World N g → List Standing → List Receiver → List Entry → Written
written world nodes modems history = record {
  nodes = nodes;
  letters = letters_of world;
  outputs = outputs_of world;
  modems = modems;
  transmissions = transmissions_of world;
  history = history;
}

-- a world stands for each written world whose nodes stand as its nodes may, and whose modems may be its modems,
-- whatever the history
abbrev pub StandsFor : {N : Type 0} {g : Ghosts N} → World N g → Written → Type 0
StandsFor world w = (w ≡ written world w.nodes w.modems w.history) × AreStandings (seats_of world) w.nodes × Hold (receivers_of world) w.modems

-- an event, from whatever standings, modems and history
abbrev pub Happens : {N : Type 0} {g : Ghosts N} → World N g → Event → Answer → World N g → Type 0
Happens old event answer new =
    (nodes : List Standing) (modems : List Receiver) (history : List Entry)
    → AreStandings (seats_of old) nodes → Hold (receivers_of old) modems
    → (nodes' : List Standing) × (modems' : List Receiver) × (history' : List Entry)
    × AreStandings (seats_of new) nodes' × Hold (receivers_of new) modems'
    × Next (length nodes) (written old nodes modems history) event answer (written new nodes' modems' history')
