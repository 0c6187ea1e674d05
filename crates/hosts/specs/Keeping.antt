-- Hosts whose nodes keep what they did by commits.
use Rattle.std.specs.Prelude.{◌≡◌, ◌<◌, ℕ, false, Option, Some, None}
use Rattle.node.specs.declared.node.Node.{Ghosts as Nodes}
use Rattle.proposer.specs.declared.fault.NodeFault.{NodeFault}
use Rattle.seats.specs.Keeping.{IsSameNode}
use Rattle.seats.specs.Occupant.{is_up, node_of}
use Rattle.seats.specs.declared.seat.Seat.{Seat}
use Rattle.hosts.specs.Acting.{KeepsRest}
use Rattle.hosts.specs.Hosts.{seat_of}
use Rattle.hosts.specs.declared.host.Host.{Host}
use Rattle.hosts.specs.declared.opens.Opens.{Ghosts}

-- a crash leaves all that its nodes did
abbrev pub HaveKept : {O N : Type 0} {g : Ghosts O N} {h : Nodes N} → Host O N g h → Type 0
HaveKept {O} {N} {g} {h} host = (e : ℕ) (seat : Seat N h) → seat_of host e ≡ Some seat → g.has_kept (node_of seat)

-- the same of those of the epochs below this one
abbrev pub HaveKeptBelow : {O N : Type 0} {g : Ghosts O N} {h : Nodes N} → ℕ → Host O N g h → Type 0
HaveKeptBelow {O} {N} {g} {h} below host = (e : ℕ) (seat : Seat N h) → e < below → seat_of host e ≡ Some seat → g.has_kept (node_of seat)

-- a node in its seat did nothing but keep what it did
abbrev pub IsSameSeat : {N : Type 0} {h : Nodes N} → Seat N h → Seat N h → Type 0
IsSameSeat {N} {h} old new = IsSameNode h (node_of old) (node_of new)

-- and it is up as it was, and has kept it
pub record KeepsSeat {O N : Type 0} {h : Nodes N} (g : Ghosts O N) (old new : Seat N h) : Type 0 where
  pub same : IsSameSeat old new
  pub up : is_up new ≡ is_up old
  pub kept : g.has_kept (node_of new)

-- a node in its seat failed to, and is down
pub record FailsInSeat {O N : Type 0} {h : Nodes N} (g : Ghosts O N) (why : NodeFault) (old new : Seat N h) : Type 0 where
  pub down : is_up new ≡ false
  pub fails : g.fails_to_keep (node_of old) why (node_of new)

-- the same of one that may be there
abbrev pub HasKeptIfAny : {O N : Type 0} {h : Nodes N} → (g : Ghosts O N) → Option (Seat N h) → Type 0
HasKeptIfAny g None = Unit {0}
HasKeptIfAny g (Some seat) = g.has_kept (node_of seat)

abbrev pub FailsIfAny : {O N : Type 0} {h : Nodes N} → (g : Ghosts O N) → NodeFault → Option (Seat N h) → Option (Seat N h) → Type 0
FailsIfAny g why (Some old) (Some new) = FailsInSeat g why old new
FailsIfAny g why old new = ⊥

-- none is there of either, or one of each, and these are related so
abbrev pub NoneOrBoth : {S : Type 0} → (S → S → Type 0) → Option S → Option S → Type 0
NoneOrBoth R None None = Unit {0}
NoneOrBoth R (Some x) (Some y) = R x y
NoneOrBoth R x y = ⊥

-- each of its nodes in its seat is related so to the one that was there, and nothing else changed
pub record RelatesSeats {O N : Type 0} {g : Ghosts O N} {h : Nodes N} (R : Seat N h → Seat N h → Type 0) (old new : Host O N g h) : Type 0 where
  pub rest : KeepsRest old new
  pub before : NoneOrBoth R old.before new.before
  pub own : R old.own new.own
  pub after : R old.after new.after

-- its node of an epoch is down
abbrev pub IsDownIn : {O N : Type 0} {g : Ghosts O N} {h : Nodes N} → Host O N g h → ℕ → Type 0
IsDownIn {O} {N} {g} {h} host e = (seat : Seat N h) × (seat_of host e ≡ Some seat) × (is_up seat ≡ false)

-- this node of an epoch is its, and is down
pub record IsDownNode {O N : Type 0} {g : Ghosts O N} {h : Nodes N} (host : Host O N g h) (e : ℕ) (node : N) : Type 0 where
  pub seat : Seat N h
  pub is : seat_of host e ≡ Some seat
  pub down : is_up seat ≡ false
  pub same : node ≡ node_of seat

-- its node of an epoch failed to keep what it did, and is down
pub record FailsToKeep {O N : Type 0} {g : Ghosts O N} {h : Nodes N} (old : Host O N g h) (e : ℕ) (why : NodeFault) (new : Host O N g h) : Type 0 where
  pub before : Seat N h
  pub after : Seat N h
  pub was : seat_of old e ≡ Some before
  pub is : seat_of new e ≡ Some after
  pub fails : FailsInSeat g why before after
