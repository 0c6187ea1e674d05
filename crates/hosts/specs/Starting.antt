-- Hosts that start at the epoch of a state.
use Rattle.std.specs.Prelude.{◌≡◌, ◌⊎◌, ℕ, ◌+◌, ◌-◌, ◌&&◌, nat_lt, Bool, List, [], ◌∷◌, ◌++◌, length, Option, Some, None, false, true, if◌then◌else◌}
use Rattle.acceptor.specs.Content.{Content}
use Rattle.epochs.specs.Epochs.{values_of}
use Rattle.epochs.specs.Scheduling.{SchedulerView, begun_from, tables_after}
use Rattle.flow_state.specs.Rows.{Rows}
use Rattle.host_states.specs.States.{IsFramed, IsState}
use Rattle.host_states.specs.declared.head.StateHead.{StateHead}
use Rattle.node.specs.declared.node.Node.{Ghosts as Nodes}
use Rattle.proposer.specs.declared.fault.NodeFault.TheVariants.{OutOfMemory}
use Rattle.seats.specs.declared.seat.Seat.{Seat}
use Rattle.hosts.specs.Hosts.{StandsAs}
use Rattle.hosts.specs.Joining.{IsOfHosts}
use Rattle.hosts.specs.New.{ArePlaces}
use Rattle.hosts.specs.Opened.{IsOpened}
use Rattle.hosts.specs.Opening.{KeepsBeginnings, KeepsState, OpensAll}
use Rattle.hosts.specs.Shifting.{Stays}
use Rattle.hosts.specs.States.{IsMade, StatesView, no_states}
use Rattle.hosts.specs.Views.{AreBegun, first_from, resuming}
use Rattle.hosts.specs.declared.fault.JoinFault.{JoinFault}
use Rattle.hosts.specs.declared.fault.JoinFault.TheVariants.{NoState, Node}
use Rattle.hosts.specs.declared.host.Host.{Host}
use Rattle.hosts.specs.declared.opens.Opens.{Ghosts}
use Rattle.hosts.specs.declared.starting.Start.{Start}
use Rattle.hosts.specs.declared.window.Window.{Window}

-- a host of so many members, of places of which an epoch may have so many, can start from such a state
pub record CanStart (members places : ℕ) (head : StateHead) : Type 0 where
  pub few : ArePlaces places
  pub of : IsOfHosts members places head

-- the tables and numbers of a start are those behind these epochs
pub record StartsBehind (start : Start) (places : ℕ) (passed : List (List (List ℕ))) : Type 0 where
  pub epoch : start.head.epoch ≡ length passed + 1
  pub before : start.head.before ≡ length (values_of places passed)
  pub tables : start.machine ≡ tables_after (values_of places passed)

-- it stands at the start of the epoch behind these: its nodes were opened over contents over which they may begin, and
-- it has one of the epoch before where it is to have that
abbrev pub StandsBehind : {O N : Type 0} {g : Ghosts O N} {h : Nodes N} → (ℕ → Content → Type 0) → (places : ℕ) → (has_before : Bool) → List (List (List ℕ)) → Host O N g h → Type 0
StandsBehind begins places has_before passed host =
    (contents : ℕ → Content) × AreBegun begins (first_from has_before (length passed)) (length passed + 2) contents
    × StandsAs host (resuming places passed (first_from has_before (length passed)) contents)

-- the nodes of an epoch, of the one after, and of the one before, where that is to be there, were opened
abbrev pub IsOpenedBefore : {O N : Type 0} {h : Nodes N} → (g : Ghosts O N) → O → ℕ → Bool → Option (Seat N h) → Type 0
IsOpenedBefore g opens e true (Some seat) = (f : ℕ) → f + 1 ≡ e → IsOpened g opens f seat
IsOpenedBefore g opens e false None = Unit {0}
IsOpenedBefore g opens e has found = ⊥

pub record IsWindow {O N : Type 0} {h : Nodes N} (g : Ghosts O N) (opens : O) (e : ℕ) (has_before : Bool) (found : Window N h) : Type 0 where
  pub before : IsOpenedBefore g opens e has_before found.before
  pub own : IsOpened g opens e found.own
  pub after : IsOpened g opens (e + 1) found.after

-- a host at the start of an epoch, behind so many outputs, with this scheduler and these nodes
pub record IsAt {O N : Type 0} {g : Ghosts O N} {h : Nodes N} (host : Host O N g h) (epoch count : ℕ) (view : SchedulerView) (window : Window N h) : Type 0 where
  pub number : host.number ≡ epoch
  pub taken : host.taken ≡ 0
  pub cursor : host.cursor ≡ count
  pub scheduler : host.scheduler ≡ view
  pub before : host.before ≡ window.before
  pub own : host.own ≡ window.own
  pub after : host.after ≡ window.after

-- the states of a member at the start of an epoch: its own one, of these bytes, made of the tables of a start
pub record HasMade (me members : ℕ) (start : Start) (states : StatesView) : Type 0 where
  pub bytes : List ℕ
  pub is : states ≡ record (no_states me members) { own = Some bytes }
  pub made : IsMade (no_states me members) start.head.epoch start.head.places start.head.before start.machine bytes

-- the epochs whose nodes are opened where one is to have these
abbrev pub opened_before : ℕ → Bool → List ℕ
opened_before e has_before = if has_before then (e - 1) ∷ [] else []

abbrev pub opened_in : ℕ → Bool → List ℕ
opened_in e has_before = opened_before e has_before ++ e ∷ (e + 1) ∷ []

-- its own state of that epoch, of these tables, was kept once its nodes of that and of the one after were opened
pub record KeepsOwn {O N : Type 0} {g : Ghosts O N} {h : Nodes N} (old : O) (head : StateHead) (rows : Rows) (host : Host O N g h) : Type 0 where
  pub bytes : List ℕ
  pub made : IsMade (no_states (g.member old).0 (g.member old).1) head.epoch head.places head.before rows bytes
  pub keeps : KeepsState g.opens_node g.keeps_state g.lets_go (opened_in head.epoch false) head.epoch bytes old host.opens

-- it has a node of the epoch before, where it is to have one and there is such an epoch
abbrev pub starts_before : Start → Bool
starts_before start = start.has_before && nat_lt 1 start.head.epoch

-- a host at a start, whose nodes were opened and whose own state was made
pub record StartsOver {O N : Type 0} {g : Ghosts O N} {h : Nodes N} (old : O) (start : Start) (host : Host O N g h) : Type 0 where
  pub keeps : KeepsBeginnings g.member g.begins old host.opens
  pub opens : OpensAll g.opens_node old (opened_in start.head.epoch (starts_before start)) host.opens
  pub window : Window N h
  pub found : IsWindow g old start.head.epoch (starts_before start) window
  pub at : IsAt host start.head.epoch start.head.before (begun_from start.machine start.head.before) window
  pub places : host.places ≡ start.head.places
  pub states : HasMade (g.member old).0 (g.member old).1 start host.states

-- its own state was kept, and what isn't needed then let go, and nothing else changed
pub record StoresOwn {O N : Type 0} {g : Ghosts O N} {h : Nodes N} (old new : Host O N g h) : Type 0 where
  pub stays : Stays old new
  pub bytes : List ℕ
  pub is : old.states.own ≡ Some bytes
  pub stored : O
  pub keeps : g.keeps_state old.opens old.number bytes stored
  pub lets_go : g.lets_go stored old.number new.opens

-- the bytes are the state of a start, without the epoch before
pub record StartsBy (members places : ℕ) (bytes : List ℕ) (start : Start) : Type 0 where
  pub state : IsState bytes start.head start.machine
  pub can : CanStart members places start.head
  pub alone : start.has_before ≡ false

-- why they are none
abbrev pub IsNoneToStart : (members places : ℕ) → List ℕ → JoinFault → Type 0
IsNoneToStart members places bytes NoState = (head : StateHead) (rows : Rows) → IsState bytes head rows → ¬ CanStart members places head
IsNoneToStart members places bytes (Node fault) =
    (fault ≡ OutOfMemory) × ((head : StateHead) × (spelling : List ℕ) × IsFramed bytes head spelling × CanStart members places head)

-- there is no host: it can't start from such a state, and nothing was opened; or a node couldn't be opened or its state
-- not kept, as may be, or memory ran out
abbrev pub IsNoStart : {O N : Type 0} → (g : Ghosts O N) → O → (places : ℕ) → StateHead → JoinFault → O → Type 0
IsNoStart g old places head NoState new = (¬ CanStart (g.member old).1 places head) × (new ≡ old)
IsNoStart g old places head (Node fault) new =
    CanStart (g.member old).1 places head × (g.may_fail fault ⊎ (fault ≡ OutOfMemory)) × KeepsBeginnings g.member g.begins old new

-- the same of bytes
abbrev pub IsNoStartBy : {O N : Type 0} → (g : Ghosts O N) → O → (places : ℕ) → List ℕ → JoinFault → O → Type 0
IsNoStartBy g old places bytes NoState new =
    ((head : StateHead) (rows : Rows) → IsState bytes head rows → ¬ CanStart (g.member old).1 places head) × (new ≡ old)
IsNoStartBy g old places bytes (Node fault) new =
    ((head : StateHead) × (spelling : List ℕ) × IsFramed bytes head spelling × CanStart (g.member old).1 places head)
    × (g.may_fail fault ⊎ (fault ≡ OutOfMemory)) × KeepsBeginnings g.member g.begins old new
