-- A host that goes to the start of an epoch above its own.
use Rattle.std.specs.Prelude.{◌≡◌, ◌⊎◌, ℕ, ◌+◌, ◌*◌, ◌<◌, ◌≤◌, ◌==◌, nat_le, if◌then◌else◌, List, [], ◌∷◌, length, Option}
use Rattle.std.specs.Prelude.{Some, None, Result, Ok, Err}
use Rattle.acceptor.specs.Content.{Content}
use Rattle.flow_state.specs.Rows.{Rows}
use Rattle.host_states.specs.States.{IsFramed, IsState}
use Rattle.host_states.specs.declared.head.StateHead.{StateHead}
use Rattle.node.specs.declared.node.Node.{Ghosts as Nodes}
use Rattle.proposer.specs.declared.fault.NodeFault.TheVariants.{OutOfMemory}
use Rattle.seats.specs.declared.seat.Seat.{Seat}
use Rattle.epochs.specs.Epochs.{AreFull}
use Rattle.epochs.specs.Scheduling.{begun_from, most_applied}
use Rattle.hosts.specs.Hosts.{StandsAs, begins_of, has_before, member_of, number_of, places_of, seat_of}
use Rattle.hosts.specs.Opened.{IsOpened}
use Rattle.hosts.specs.Opening.{KeepsBeginnings, KeepsState, OpensAll}
use Rattle.hosts.specs.Shifting.{Stays}
use Rattle.hosts.specs.States.{IsMade, IsStateOf}
use Rattle.hosts.specs.Views.{AreBegun, HostView, first_lacked, joined, number}
use Rattle.hosts.specs.declared.entering.Opened.{Opened}
use Rattle.hosts.specs.declared.fault.JoinFault.{JoinFault}
use Rattle.hosts.specs.declared.fault.JoinFault.TheVariants.{NoState, Node}
use Rattle.hosts.specs.declared.host.Host.{Host}
use Rattle.hosts.specs.declared.opens.Opens.{Ghosts}

-- such a state is of hosts of so many members and places: one of them tells it, it is behind as many outputs as the
-- epochs before it have places, and those of its epoch can be numbered
pub record IsOfHosts (count places_each : ℕ) (head : StateHead) : Type 0 where
  pub members : head.members ≡ count
  pub teller : head.id < head.members
  pub places : head.places ≡ places_each
  pub counts : head.before + head.places ≡ head.epoch * head.places
  pub room : head.before + head.places < most_applied

-- a host can go on from such a state: it is of as many members and places, and of an epoch above its own
pub record CanJoin {O N : Type 0} {g : Ghosts O N} {h : Nodes N} (host : Host O N g h) (head : StateHead) : Type 0 where
  pub of : IsOfHosts (member_of host).1 (places_of host) head
  pub above : number_of host < head.epoch

-- those that it lacked of an epoch and of the one after were opened
abbrev pub IsOpenedIn : {O N : Type 0} {g : Ghosts O N} {h : Nodes N} → Host O N g h → ℕ → Option (Seat N h) → Type 0
IsOpenedIn host e None = e ≡ host.number + 1
IsOpenedIn {O} {N} {g} {h} host e (Some seat) = (host.number + 1 < e) × IsOpened g host.opens e seat

pub record IsOpenedFor {O N : Type 0} {g : Ghosts O N} {h : Nodes N} (host : Host O N g h) (e : ℕ) (opened : Opened N h) : Type 0 where
  pub own : IsOpenedIn host e opened.own
  pub after : IsOpened g host.opens (e + 1) opened.after

-- the epochs whose nodes one whose own epoch is number n lacks where it goes to epoch e above it
abbrev pub lacked : (n e : ℕ) → List ℕ
lacked n e = if e == n + 1 then (e + 1) ∷ [] else e ∷ (e + 1) ∷ []

-- the nodes so far above, out of those that were there and those that were opened
abbrev pub EntersOver : {N : Type 0} {h : Nodes N} → ℕ → (own after : Seat N h) → Option (Seat N h) → (before' : Option (Seat N h)) (own' : Seat N h) → Type 0
EntersOver gap own after None before' own' = (before' ≡ Some own) × (own' ≡ after)
EntersOver gap own after (Some seat) before' own' = (before' ≡ if gap == 2 then Some after else None) × (own' ≡ seat)

abbrev pub EntersAs : {N : Type 0} {h : Nodes N} → ℕ → (own after : Seat N h) → Opened N h → (before' : Option (Seat N h)) (own' after' : Seat N h) → Type 0
EntersAs gap own after opened before' own' after' = EntersOver gap own after opened.own before' own' × (after' ≡ opened.after)

-- all that it lacked of the epoch of a state was opened, and its own state of that, of these tables, made and kept
pub record IsReadyFor {O N : Type 0} {g : Ghosts O N} {h : Nodes N} (old : Host O N g h) (head : StateHead) (rows : Rows) (bytes : List ℕ) (opened : Opened N h) (new : Host O N g h) : Type 0 where
  pub nodes : IsOpenedFor old head.epoch opened
  pub made : IsMade old.states head.epoch old.places head.before rows bytes
  pub behind : O
  pub opens : OpensAll g.opens_node old.opens (lacked old.number head.epoch) behind
  pub keeps : g.keeps_state behind head.epoch bytes new.opens

-- its nodes are those of an epoch above its own and of the one after, and that of the one before, if it had it: what it
-- had of these stays, and the others were opened
pub record Enters {O N : Type 0} {g : Ghosts O N} {h : Nodes N} (old new : Host O N g h) (epoch : ℕ) : Type 0 where
  pub keeps : KeepsBeginnings g.member g.begins old.opens new.opens
  pub number : new.number ≡ epoch
  pub before : has_before new ≡ nat_le epoch (old.number + 2)
  pub kept : (e : ℕ) (seat : Seat N h) → epoch ≤ e + 1 → seat_of old e ≡ Some seat → seat_of new e ≡ Some seat
  pub each : (e : ℕ) (seat : Seat N h) → seat_of new e ≡ Some seat → (seat_of old e ≡ Some seat) ⊎ ((old.number + 1 < e) × (epoch ≤ e) × IsOpened g old.opens e seat)

-- it is at the start of the epoch of a state, with its tables, and all outputs before them are given. Its own state of
-- that was kept once what it lacked was opened
pub record Begins {O N : Type 0} {g : Ghosts O N} {h : Nodes N} (old new : Host O N g h) (head : StateHead) (rows : Rows) : Type 0 where
  pub enters : Enters old new head.epoch
  pub places : new.places ≡ old.places
  pub taken : new.taken ≡ 0
  pub cursor : new.cursor ≡ head.before
  pub scheduler : new.scheduler ≡ begun_from rows head.before
  pub state : (bytes : List ℕ) × IsMade old.states head.epoch old.places head.before rows bytes × (new.states ≡ record old.states { own = Some bytes; next = None })
      × KeepsState g.opens_node g.keeps_state g.lets_go (lacked old.number head.epoch) head.epoch bytes old.opens new.opens

-- the bytes are a state from which it can go on, and it does
abbrev pub Joins : {O N : Type 0} {g : Ghosts O N} {h : Nodes N} → Host O N g h → List ℕ → Host O N g h → Type 0
Joins old bytes new = (head : StateHead) × (rows : Rows) × IsState bytes head rows × CanJoin old head × Begins old new head rows

-- it doesn't: the bytes are no such state; or they are whole, their head is one of such a state, and a node couldn't be
-- opened or the state not kept, as may be, or memory ran out. Nothing changes
abbrev pub StaysFor : {O N : Type 0} {g : Ghosts O N} {h : Nodes N} → Host O N g h → List ℕ → JoinFault → Host O N g h → Type 0
StaysFor old bytes NoState new = (new ≡ old) × ((head : StateHead) (rows : Rows) → IsState bytes head rows → ¬ CanJoin old head)
StaysFor {O} {N} {g} {h} old bytes (Node fault) new =
    Stays old new × (g.may_fail fault ⊎ (fault ≡ OutOfMemory)) × ((head : StateHead) × (spelling : List ℕ) × IsFramed bytes head spelling × CanJoin old head)

-- as it stands: at the start of the epoch, with what it knew of nodes, where those that it lacked begin; or as before
abbrev pub JoinsAs : {O N : Type 0} {g : Ghosts O N} {h : Nodes N} → Host O N g h → HostView → List ℕ → Result (Unit {0}) JoinFault → Host O N g h → Type 0
JoinsAs old v bytes (Ok done) new =
    (me : ℕ) (passed : List (List (List ℕ))) → AreFull (places_of old) passed → IsStateOf me (member_of old).1 (places_of old) passed bytes
    → (contents : ℕ → Content) × AreBegun (begins_of old) (first_lacked (number v) (length passed + 1)) (length passed + 2) contents
    × StandsAs new (joined (places_of old) v passed contents)
JoinsAs old v bytes (Err fault) new = StandsAs new v
