-- What holds of every run, whatever the network loses, repeats or reorders, and whichever nodes crash and restart.
use Rattle.std.specs.Prelude.{◌≡◌, ℕ, ◌+◌, List, ◌++◌, length, Some, slice_get}
use Rattle.ballots.specs.Voting.{Entry, IsIn, IsLegal, IsChosen}
use Rattle.grant_machine.specs.declared.output.Output.TheVariants.{Map}
use Rattle.grant_machine.specs.Laws.{InMap}
use Rattle.command_log.specs.Values.{outputs_of_values, Owner}
use Rattle.modem.specs.Held.{Held, unicast_sid}
use Rattle.node.specs.View.{View, gapless}
use Rattle.node.specs.View.Standing.{Running}
use Rattle.world_events.specs.declared.event.Event.{Event}
use Rattle.seats.specs.declared.answer.Answer.{Answer}
use Rattle.seats.specs.declared.answer.ReleasedOutput.{ReleasedOutput}
use Rattle.seats.specs.declared.answer.Transmission.{Transmission}
use Rattle.network_script.specs.World.{Written}
use Rattle.seats.specs.Receiver.{Receiver}
use Rattle.network_script.specs.Next.{Goes, Run}

-- it holds of every run over so many nodes and modems with these ids, and of the world that the run leaves
abbrev pub OfEveryRun : (ℕ → List ℕ → Written → Type 0) → Type 0
OfEveryRun Holds = (members : ℕ) (ids : List ℕ) (script : List Event) (report : List Answer) (w : Written) → Run members ids script report w → Holds members ids w

-- some run came to the world mid, and went on to the world w
pub record Passes (members : ℕ) (ids : List ℕ) (mid w : Written) : Type 0 where
  pub script : List Event
  pub report : List Answer
  pub came : Run members ids script report mid
  pub rest : List Event
  pub answers : List Answer
  pub went : Goes members mid rest answers w

-- a run may be cut in two: what is reached from where the first part ended is reached by the whole
abbrev pub RunsJoin : Type 0
RunsJoin =
    (members : ℕ) (w mid last : Written) (first second : List Event) (told more : List Answer)
    → Goes members w first told mid → Goes members mid second more last → Goes members w (first ++ second) (told ++ more) last

-- ---- votes

-- the voting history is legal
abbrev pub HistoryIsLegal : ℕ → List ℕ → Written → Type 0
HistoryIsLegal members ids w = IsLegal members w.history

-- what a node learned, at any time, is chosen
abbrev pub LearnedIsChosen : ℕ → List ℕ → Written → Type 0
LearnedIsChosen members ids w =
    (mid : Written) → Passes members ids mid w
    → (k : ℕ) (view : View) (p : ℕ) (v : List ℕ) → slice_get mid.nodes k ≡ Some (Running view) → IsIn view.tally.learned (p, v) → IsChosen members w.history p v

-- what a node that is up learned, at any time, is what its learned rows hold
abbrev pub LearnedIsWritten : ℕ → List ℕ → Written → Type 0
LearnedIsWritten members ids w =
    (mid : Written) → Passes members ids mid w → (k : ℕ) (view : View) → slice_get mid.nodes k ≡ Some (Running view) → view.tally.learned ≡ view.content.learned

-- ---- the one schedule

-- the list begins with these
abbrev pub IsBeginning : {X : Type 0} → List X → List X → Type 0
IsBeginning {X} xs ys = (rest : List X) × (xs ++ rest ≡ ys)

-- c is the list of the values that are chosen at place 1, 2 and so on without a gap
pub record IsSchedule (members : ℕ) (h : List Entry) (c : List (List ℕ)) : Type 0 where
  pub chosen : (k : ℕ) (v : List ℕ) → slice_get c k ≡ Some v → IsChosen members h (k + 1) v
  pub whole : (v : List ℕ) → IsChosen members h (length c + 1) v → ⊥

-- there is one list of chosen values
abbrev pub HasOneSchedule : ℕ → List ℕ → Written → Type 0
HasOneSchedule members ids w = (c : List (List ℕ)) × IsSchedule members w.history c × ((d : List (List ℕ)) → IsSchedule members w.history d → d ≡ c)

-- it holds of the world and that list
abbrev pub WithSchedule : (ℕ → List ℕ → Written → List (List ℕ) → Type 0) → ℕ → List ℕ → Written → Type 0
WithSchedule Holds members ids w = (c : List (List ℕ)) → IsSchedule members w.history c → Holds members ids w c

-- a node's gapless learned values, at any time, are a beginning of it
abbrev pub GaplessIsBeginning : ℕ → List ℕ → Written → List (List ℕ) → Type 0
GaplessIsBeginning members ids w c =
    (mid : Written) → Passes members ids mid w → (k : ℕ) (view : View) → slice_get mid.nodes k ≡ Some (Running view) → IsBeginning (gapless view) c

-- each released output is the one at its place of the outputs of the chosen values
abbrev pub ReleasedIsOutput : ℕ → List ℕ → Written → List (List ℕ) → Type 0
ReleasedIsOutput members ids w c = (x : ReleasedOutput) → IsIn w.outputs x → (i : ℕ) × (x.numbered.place ≡ i + 1) × (slice_get (outputs_of_values c) i ≡ Some x.numbered.output)

-- a node released this MAP
abbrev pub IsReleasedMap : Written → (ch start len : ℕ) → List ℕ → Type 0
IsReleasedMap w ch start len bytes = (x : ReleasedOutput) × IsIn w.outputs x × (x.numbered.output ≡ Map ch start len bytes)

-- released MAPs of a channel that share a minislot have equal bytes
abbrev pub MapsAreOne : ℕ → List ℕ → Written → Type 0
MapsAreOne members ids w =
    (ch m start len start' len' : ℕ) (bytes bytes' : List ℕ) → IsReleasedMap w ch start len bytes → IsReleasedMap w ch start' len' bytes'
    → InMap start len m → InMap start' len' m → bytes ≡ bytes'

-- at most one MAP of the outputs of the chosen values covers a minislot of a channel
abbrev pub CoversOnce : ℕ → List ℕ → Written → List (List ℕ) → Type 0
CoversOnce members ids w c =
    (i j ch m start len start' len' : ℕ) (bytes bytes' : List ℕ) → slice_get (outputs_of_values c) i ≡ Some (Map ch start len bytes) → slice_get (outputs_of_values c) j ≡ Some (Map ch start' len' bytes')
    → InMap start len m → InMap start' len' m → i ≡ j

-- ---- the one owner

-- modem j, whose id this is, holds minislot m of a channel by a SID: a MAP that it heard as Taken gives the SID that
-- minislot, and the SID was its own
pub record HoldsAt (ids : List ℕ) (w : Written) (j id ch m sid : ℕ) : Type 0 where
  pub receiver : Receiver
  pub named : slice_get ids j ≡ Some id
  pub there : slice_get w.modems j ≡ Some receiver
  pub held : Held id receiver.heard ch m sid

-- the modems are known by these ids
abbrev pub ModemsAreNamed : ℕ → List ℕ → Written → Type 0
ModemsAreNamed members ids w = (j : ℕ) (r : Receiver) → slice_get w.modems j ≡ Some r → slice_get ids j ≡ Some r.state.id

-- what a modem holds, it owns by the outputs of the chosen values
abbrev pub HeldIsOwned : ℕ → List ℕ → Written → List (List ℕ) → Type 0
HeldIsOwned members ids w c = (j id ch m sid : ℕ) → HoldsAt ids w j id ch m sid → Owner c ch m id

-- and a minislot has at most one owner
abbrev pub OwnersAreOne : ℕ → List ℕ → Written → List (List ℕ) → Type 0
OwnersAreOne members ids w c = (ch m id other : ℕ) → Owner c ch m id → Owner c ch m other → id ≡ other

-- so modems of two ids hold no minislot both, whatever MAPs they missed, heard again or heard out of order
abbrev pub HoldersAreOne : ℕ → List ℕ → Written → Type 0
HoldersAreOne members ids w = (i j id other ch m sid sid' : ℕ) → HoldsAt ids w i id ch m sid → HoldsAt ids w j other ch m sid' → id ≡ other

-- each unicast transmission, by a grant, at a poll or to range, is at a minislot that its modem holds
abbrev pub SentIsHeld : ℕ → List ℕ → Written → Type 0
SentIsHeld members ids w = (x : Transmission) (sid : ℕ) → IsIn w.transmissions x → unicast_sid (Some x.sending) ≡ Some sid → (id : ℕ) × HoldsAt ids w x.modem id x.channel x.slot sid

-- ---- all of it

-- no log place has two chosen values
abbrev pub ChosenAreOne : ℕ → List ℕ → Written → Type 0
ChosenAreOne members ids w = (p : ℕ) (v v' : List ℕ) → IsChosen members w.history p v → IsChosen members w.history p v' → v ≡ v'

-- each unicast transmission is made by the one owner of its minislot
abbrev pub SentByOwner : ℕ → List ℕ → Written → List (List ℕ) → Type 0
SentByOwner members ids w c =
    (x : Transmission) (sid : ℕ) → IsIn w.transmissions x → unicast_sid (Some x.sending) ≡ Some sid
    → (id : ℕ) × (slice_get ids x.modem ≡ Some id) × Owner c x.channel x.slot id × ((other : ℕ) → Owner c x.channel x.slot other → other ≡ id)

-- what holds of the world that a run leaves, whose one list of chosen values is c
pub record FollowsOneSchedule (members : ℕ) (ids : List ℕ) (w : Written) (c : List (List ℕ)) : Type 0 where
  pub schedule : IsSchedule members w.history c
  pub no_other : (d : List (List ℕ)) → IsSchedule members w.history d → d ≡ c
  pub legal : HistoryIsLegal members ids w
  pub chosen : ChosenAreOne members ids w
  pub learned : LearnedIsChosen members ids w
  pub gapless : GaplessIsBeginning members ids w c
  pub released : ReleasedIsOutput members ids w c
  pub maps : MapsAreOne members ids w
  pub covers : CoversOnce members ids w c
  pub held : HeldIsOwned members ids w c
  pub owners : OwnersAreOne members ids w c
  pub holders : HoldersAreOne members ids w
  pub sent : SentIsHeld members ids w
  pub by_owner : SentByOwner members ids w c

-- For every script of deliveries, losses, repeats, reorderings, takeovers, crashes and restarts: no log place has two
-- chosen values, every released MAP is the one that the chosen values give its minislots, and every unicast
-- transmission is made by the one owner of its minislot.
abbrev pub Headline : Type 0
Headline = OfEveryRun (λ members ids w. (c : List (List ℕ)) × FollowsOneSchedule members ids w c)
