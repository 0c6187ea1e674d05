-- What a host does as it releases: it goes on, takes up, and gives.
use Rattle.std.specs.Prelude.{◌≡◌, ◌⊎◌, ℕ, ◌+◌, ◌<◌, not, filter, List, [], ◌∷◌, Some, IsTrue, is_some}
use Rattle.map_release.specs.Released.{has_ended}
use Rattle.seats.specs.declared.seat.Seat.{Seat}
use Rattle.epochs.specs.Scheduling.{most_applied}
use Rattle.hosts.specs.Hosts.{StandsAs, member_of, number_of, places_of}
use Rattle.hosts.specs.Opened.{IsOpened}
use Rattle.hosts.specs.Opening.{KeepsBeginnings, KeepsState}
use Rattle.hosts.specs.States.{IsMade, IsStateOf, gone_on}
use Rattle.hosts.specs.Taking.{TakesFrom}
use Rattle.hosts.specs.Views.{HostView, known}
use Rattle.hosts.specs.declared.acted.Given.{Given}
use Rattle.hosts.specs.declared.acted.Given.TheVariants.{Outputs, Failed}
use Rattle.hosts.specs.declared.host.Host.{Host}
use Rattle.hosts.specs.declared.opens.Opens.{Ghosts}
use Rattle.node.specs.declared.node.Node.{Ghosts as Nodes}

-- it took up and gave all of its own epoch, and the outputs of the next one can be numbered
pub record CanGoOn {O N : Type 0} {g : Ghosts O N} {h : Nodes N} (host : Host O N g h) : Type 0 where
  pub taken : host.taken ≡ host.places
  pub given : host.cursor ≡ host.scheduler.applied
  pub room : host.scheduler.applied + host.places < most_applied

-- its nodes stay, and what opens them
pub record KeepsNodes {O N : Type 0} {g : Ghosts O N} {h : Nodes N} (old new : Host O N g h) : Type 0 where
  pub opens : new.opens ≡ old.opens
  pub places : new.places ≡ old.places
  pub number : new.number ≡ old.number
  pub before : new.before ≡ old.before
  pub own : new.own ≡ old.own
  pub after : new.after ≡ old.after

-- nothing changed but what opens nodes: these begin over nothing over which they didn't before
pub record Stays {O N : Type 0} {g : Ghosts O N} {h : Nodes N} (old new : Host O N g h) : Type 0 where
  pub keeps : KeepsBeginnings g.member g.begins old.opens new.opens
  pub places : new.places ≡ old.places
  pub number : new.number ≡ old.number
  pub taken : new.taken ≡ old.taken
  pub cursor : new.cursor ≡ old.cursor
  pub scheduler : new.scheduler ≡ old.scheduler
  pub states : new.states ≡ old.states
  pub before : new.before ≡ old.before
  pub own : new.own ≡ old.own
  pub after : new.after ≡ old.after

-- the node behind the next epoch was opened, and then the state at the start of that kept
pub record OpensNext {O N : Type 0} {g : Ghosts O N} {h : Nodes N} (old : Host O N g h) (seat : Seat N h) (new : Host O N g h) : Type 0 where
  pub opened : IsOpened g old.opens (old.number + 2) seat
  pub bytes : List ℕ
  pub is : old.states.next ≡ Some bytes
  pub behind : O
  pub opens : g.opens_node old.opens (old.number + 2) behind
  pub keeps : g.keeps_state behind (old.number + 1) bytes new.opens

-- its nodes are those of the next three epochs, of which the last was opened, and it took up nothing of its own one.
-- The state at the start of that was kept once the last was opened
pub record Shifts {O N : Type 0} {g : Ghosts O N} {h : Nodes N} (old new : Host O N g h) : Type 0 where
  pub keeps : KeepsBeginnings g.member g.begins old.opens new.opens
  pub places : new.places ≡ old.places
  pub number : new.number ≡ old.number + 1
  pub taken : new.taken ≡ 0
  pub cursor : new.cursor ≡ old.cursor
  pub scheduler : new.scheduler ≡ old.scheduler
  pub states : (new.states ≡ gone_on old.states) × IsTrue (is_some old.states.next)
  pub state : (bytes : List ℕ) × (old.states.next ≡ Some bytes)
      × KeepsState g.opens_node g.keeps_state g.lets_go ((old.number + 2) ∷ []) (old.number + 1) bytes old.opens new.opens
  pub before : new.before ≡ Some old.own
  pub own : new.own ≡ old.after
  pub opened : IsOpened g old.opens (old.number + 2) new.after

-- the node behind the next epoch was opened, then the state at the start of that one kept, behind all values up to there,
-- and last what isn't needed then let go
abbrev pub StoresNext : {O N : Type 0} {g : Ghosts O N} {h : Nodes N} → Host O N g h → Host O N g h → Type 0
StoresNext {O} {N} {g} {h} old new =
    (bytes : List ℕ)
    × KeepsState g.opens_node g.keeps_state g.lets_go ((number_of old + 2) ∷ []) (number_of old + 1) bytes old.opens new.opens
    × ((v : HostView) → StandsAs old v → IsStateOf (member_of old).0 (member_of old).1 (places_of old) (known v) bytes)

-- it goes on where it can, and else stays as it is
abbrev pub GoesOn : {O N : Type 0} {g : Ghosts O N} {h : Nodes N} → Host O N g h → Host O N g h → Type 0
GoesOn old new = (CanGoOn old × Shifts old new) ⊎ ((¬ CanGoOn old) × (new ≡ old))

-- the state at the start of the next epoch stays as it was, or is that of the tables
abbrev pub KeepsStates : {O N : Type 0} {g : Ghosts O N} {h : Nodes N} → Host O N g h → Host O N g h → Type 0
KeepsStates old new =
    (new.states ≡ old.states)
    ⊎ ((bytes : List ℕ) × IsMade old.states (old.number + 1) old.places new.scheduler.applied new.scheduler.rows bytes × (new.states ≡ record old.states { next = Some bytes }))

-- it took up what its own epoch's node has learned
pub record TakesOwn {O N : Type 0} {g : Ghosts O N} {h : Nodes N} (old new : Host O N g h) : Type 0 where
  pub nodes : KeepsNodes old new
  pub cursor : new.cursor ≡ old.cursor
  pub takes : TakesFrom old.own old.places old.taken old.scheduler new.taken new.scheduler
  pub states : KeepsStates old new

-- nothing changed but that the state at the start of the next epoch may be there
pub record Prepares {O N : Type 0} {g : Ghosts O N} {h : Nodes N} (old new : Host O N g h) : Type 0 where
  pub nodes : KeepsNodes old new
  pub taken : new.taken ≡ old.taken
  pub cursor : new.cursor ≡ old.cursor
  pub scheduler : new.scheduler ≡ old.scheduler
  pub states : KeepsStates old new

-- the state at the start of the next epoch is there, where its own one is full
abbrev pub IsReady : {O N : Type 0} {g : Ghosts O N} {h : Nodes N} → Host O N g h → Type 0
IsReady host = host.taken ≡ host.places → IsTrue (is_some host.states.next)

-- it gave what waited, and said what it lacks
abbrev pub SaysNext : {O N : Type 0} {g : Ghosts O N} {h : Nodes N} → Host O N g h → ℕ → Given → Type 0
SaysNext host now (Outputs outputs epoch place) =
    (outputs.items ≡ filter (λ x. not (has_ended now x.output)) host.scheduler.waiting) × (epoch ≡ host.number) × (place ≡ host.taken + 1)
SaysNext host now (Failed fault) = ⊥

pub record GivesOut {O N : Type 0} {g : Ghosts O N} {h : Nodes N} (old : Host O N g h) (now : ℕ) (given : Given) (new : Host O N g h) : Type 0 where
  pub nodes : KeepsNodes old new
  pub taken : new.taken ≡ old.taken
  pub cursor : new.cursor ≡ old.scheduler.applied
  pub scheduler : new.scheduler ≡ record old.scheduler { waiting = [] }
  pub states : new.states ≡ old.states
  pub says : SaysNext old now given
