-- Runs one behind the other, an epoch each: what nodes learned in them, and the one log that they are (the logs: Lamport,
-- Paxos Made Simple; the MAPs: CM-SP-MULPIv3.1, Allocation Map).
use Rattle.std.specs.Prelude.{◌≡◌, ℕ, ◌+◌, List, [], ◌∷◌, Some, slice_get}
use Rattle.ballots.specs.Voting.{IsIn}
use Rattle.grant_machine.specs.declared.output.Output.{Output}
use Rattle.grant_machine.specs.declared.output.Output.TheVariants.{Map}
use Rattle.grant_machine.specs.Laws.{InMap}
use Rattle.command_log.specs.Values.{Owner}
use Rattle.modem.specs.Held.{Held, Hearing}
use Rattle.modem.specs.Owner.{HeardFrom}
use Rattle.epochs.specs.Epochs.{IsBeginning, outputs_over, values_of}
use Rattle.node.specs.View.{View}
use Rattle.node.specs.View.Standing.{Running}
use Rattle.world_events.specs.declared.event.Event.{Event}
use Rattle.seats.specs.declared.answer.Answer.{Answer}
use Rattle.network_script.specs.World.{Written}
use Rattle.network_script.specs.Next.{Run}
use Rattle.network_script.specs.Headline.{FollowsOneSchedule, Passes}

-- so many fresh nodes came to this world, without modems
pub record IsOfRun (members : ℕ) (w : Written) : Type 0 where
  pub script : List Event
  pub report : List Answer
  pub run : Run members [] script report w

-- worlds, one for each epoch, each of nodes of its own
abbrev pub AreOfRuns : ℕ → List Written → Type 0
AreOfRuns members [] = Unit {0}
AreOfRuns members (w ∷ ws) = IsOfRun members w × AreOfRuns members ws

-- at some time a node of a world had learned this value at place p
pub record HadLearned (members : ℕ) (w : Written) (p : ℕ) (v : List ℕ) : Type 0 where
  pub node : ℕ
  pub mid : Written
  pub passes : Passes members [] mid w
  pub view : View
  pub there : slice_get mid.nodes node ≡ Some (Running view)
  pub learned : IsIn view.tally.learned (p, v)

-- these at place 1, 2 and so on, each by a node of its own, at a time of its own
abbrev pub HadLearnedAll : (members : ℕ) → Written → List (List ℕ) → Type 0
HadLearnedAll members w values = (i : ℕ) (v : List ℕ) → slice_get values i ≡ Some v → HadLearned members w (i + 1) v

-- the same in each of the first worlds
abbrev pub HasLearned : (members : ℕ) → List Written → List (List (List ℕ)) → Type 0
HasLearned members ws [] = Unit {0}
HasLearned members [] (c ∷ cs) = ⊥
HasLearned members (w ∷ ws) (c ∷ cs) = HadLearnedAll members w c × HasLearned members ws cs

-- the one list of chosen values of each world
abbrev pub AreSchedules : ℕ → List Written → List (List (List ℕ)) → Type 0
AreSchedules members [] [] = Unit {0}
AreSchedules members (w ∷ ws) (c ∷ cs) = FollowsOneSchedule members [] w c × AreSchedules members ws cs
AreSchedules members ws cs = ⊥

-- at most one MAP of the outputs of all values covers a minislot of a channel
abbrev pub CoversOnceOver : List Output → Type 0
CoversOnceOver outputs =
    (i j ch m start len start' len' : ℕ) (bytes bytes' : List ℕ) → slice_get outputs i ≡ Some (Map ch start len bytes) → slice_get outputs j ≡ Some (Map ch start' len' bytes')
    → InMap start len m → InMap start' len' m → i ≡ j

-- worlds of epochs with so many places, whose chosen values are these, are one log
pub record FollowOneLog (members places : ℕ) (ws : List Written) (cs : List (List (List ℕ))) : Type 0 where
  pub each : AreSchedules members ws cs
  -- what nodes learned, whichever and at any time of each epoch, is a beginning of the values of all
  pub learned : (known : List (List (List ℕ))) → HasLearned members ws known → IsBeginning (values_of places known) (values_of places cs)
  -- and an output that they give is the one at its number of all
  pub outputs : (known : List (List (List ℕ))) → HasLearned members ws known
      → (i : ℕ) (o : Output) → slice_get (outputs_over places known) i ≡ Some o → slice_get (outputs_over places cs) i ≡ Some o
  pub covers : CoversOnceOver (outputs_over places cs)
  pub owners : (ch m id other : ℕ) → Owner (values_of places cs) ch m id → Owner (values_of places cs) ch m other → id ≡ other
  -- what a modem holds that heard only these outputs, each near its time, it owns
  pub held : (id : ℕ) (hearings : List Hearing) → HeardFrom (outputs_over places cs) hearings → (ch m sid : ℕ) → Held id hearings ch m sid → Owner (values_of places cs) ch m id

-- whatever is lost, repeated and reordered in each epoch, and whichever nodes crash and restart in it, and however far
-- each node came in each: the epochs are one log
abbrev pub EpochsFollowOneLog : Type 0
EpochsFollowOneLog = (members places : ℕ) (ws : List Written) → AreOfRuns members ws → (cs : List (List (List ℕ))) × FollowOneLog members places ws cs
