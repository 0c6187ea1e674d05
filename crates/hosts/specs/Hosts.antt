-- What is seen of a host.
use Rattle.std.specs.Prelude.{◌≡◌, ℕ, ◌+◌, ◌≤◌, Bool, true, ◌&&◌, length, Option, Some, None}
use Rattle.std.specs.Prelude.{is_some, nat_lt}
use Rattle.acceptor.specs.Content.{Content}
use Rattle.seats.specs.Occupant.{IsClean as IsSeatClean, IsHonest as IsSeatHonest, Stands, is_up}
use Rattle.seats.specs.Occupant.{member as member_of_seat}
use Rattle.seats.specs.declared.seat.Seat.{Seat}
use Rattle.epochs.specs.Epochs.{AreFull}
use Rattle.epochs.specs.Scheduling.{scheduled}
use Rattle.hosts.specs.declared.host.Host.{Host}
use Rattle.hosts.specs.declared.opens.Opens.{Ghosts}
use Rattle.node.specs.declared.node.Node.{Ghosts as Nodes}
use Rattle.hosts.specs.Slots.{slot}
use Rattle.hosts.specs.States.{AreStates}
use Rattle.hosts.specs.Views.{HostView, number, values}

-- its node of an epoch in its seat, of the three that it has
abbrev pub seat_of : {O N : Type 0} {g : Ghosts O N} {h : Nodes N} → Host O N g h → ℕ → Option (Seat N h)
seat_of host e = slot host.number host.before host.own host.after e

-- a node in its seat is up, if there is one
abbrev pub is_up_if_any : {N : Type 0} {h : Nodes N} → Option (Seat N h) → Bool
is_up_if_any None = true
is_up_if_any (Some seat) = is_up seat

-- each of its nodes is up
abbrev pub are_up : {O N : Type 0} {g : Ghosts O N} {h : Nodes N} → Host O N g h → Bool
are_up host = is_up host.own && (is_up host.after && is_up_if_any host.before)

-- the places of an epoch that count
abbrev pub places_of : {O N : Type 0} {g : Ghosts O N} {h : Nodes N} → Host O N g h → ℕ
places_of host = host.places

-- the number of its epoch
abbrev pub number_of : {O N : Type 0} {g : Ghosts O N} {h : Nodes N} → Host O N g h → ℕ
number_of host = host.number

-- it has a node of the epoch before its own one
abbrev pub has_before : {O N : Type 0} {g : Ghosts O N} {h : Nodes N} → Host O N g h → Bool
has_before host = is_some host.before

-- its number as a member, and of how many
abbrev pub member_of : {O N : Type 0} {g : Ghosts O N} {h : Nodes N} → Host O N g h → ℕ × ℕ
member_of {O} {N} {g} {h} host = g.member host.opens

-- what the records of an epoch's node may hold where it is opened
abbrev pub begins_of : {O N : Type 0} {g : Ghosts O N} {h : Nodes N} → Host O N g h → ℕ → Content → Type 0
begins_of {O} {N} {g} {h} host = g.begins host.opens

-- the records of its nodes have returned what they committed
abbrev pub IsHonest : {O N : Type 0} {g : Ghosts O N} {h : Nodes N} → Host O N g h → Type 0
IsHonest {O} {N} {g} {h} host = (e : ℕ) (seat : Seat N h) → seat_of host e ≡ Some seat → IsSeatHonest seat

-- nothing below them has failed silently
abbrev pub IsClean : {O N : Type 0} {g : Ghosts O N} {h : Nodes N} → Host O N g h → Type 0
IsClean {O} {N} {g} {h} host = (e : ℕ) (seat : Seat N h) → seat_of host e ≡ Some seat → IsSeatClean seat

-- of the nodes that it still has, honesty and cleanness aren't regained, and while nothing fails silently honesty isn't
-- lost
pub record KeepsTrust {O N : Type 0} {g : Ghosts O N} {h : Nodes N} (old new : Host O N g h) : Type 0 where
  pub honest : IsHonest new → (e : ℕ) (seat : Seat N h) → number_of new ≤ e + 1 → seat_of old e ≡ Some seat → IsSeatHonest seat
  pub clean : IsClean new → (e : ℕ) (seat : Seat N h) → number_of new ≤ e + 1 → seat_of old e ≡ Some seat → IsSeatClean seat
  pub sure : IsClean new → IsHonest old → IsHonest new

-- it is the same member, with as many places, and its nodes begin over nothing over which they didn't before
pub record SameHost {O N : Type 0} {g : Ghosts O N} {h : Nodes N} (old new : Host O N g h) : Type 0 where
  pub member : member_of new ≡ member_of old
  pub places : places_of new ≡ places_of old
  pub begins : (e : ℕ) (c : Content) → begins_of new e c → begins_of old e c

-- each of its nodes is this member of as many
abbrev pub AreMembers : {O N : Type 0} {g : Ghosts O N} {h : Nodes N} → Host O N g h → Type 0
AreMembers {O} {N} {g} {h} host = (e : ℕ) (seat : Seat N h) → seat_of host e ≡ Some seat → member_of_seat seat ≡ member_of host

-- it may stand so
pub record StandsAs {O N : Type 0} {g : Ghosts O N} {h : Nodes N} (host : Host O N g h) (v : HostView) : Type 0 where
  pub epoch : host.number ≡ number v
  pub taken : host.taken ≡ length v.own
  pub cursor : host.cursor ≡ v.cursor
  pub full : AreFull host.places v.passed
  pub scheduler : host.scheduler ≡ scheduled (values host.places v) v.cursor
  pub nodes : (e : ℕ) (seat : Seat N h) → seat_of host e ≡ Some seat → Stands seat (v.nodes e)
  pub some : 1 ≤ v.first
  pub since : v.first ≤ number v
  pub before : has_before host ≡ nat_lt v.first (number v)
  pub states : AreStates host.places v.passed v.own host.states
