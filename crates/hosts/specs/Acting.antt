-- What a host's node does, whatever its records do.
use Rattle.std.specs.Prelude.{◌≡◌, ◌≢◌, ℕ, ◌+◌, ◌<◌, ◌≤◌, Bool, true, false, ◌&&◌, Some}
use Rattle.node.specs.declared.node.Node.{Ghosts as Nodes}
use Rattle.node.specs.View.{Standing}
use Rattle.seats.specs.Acted.{letters_of, outputs_of, told}
use Rattle.seats.specs.Acts.{Acts}
use Rattle.seats.specs.Moves.{Ask}
use Rattle.seats.specs.Occupant.{Stands, is_up, node_of}
use Rattle.seats.specs.declared.seat.Seat.{Seat}
use Rattle.hosts.specs.Beyond.{is_beyond, is_offer, leads_beyond}
use Rattle.hosts.specs.Hosts.{has_before, number_of, places_of, seat_of}
use Rattle.hosts.specs.declared.acted.HostActed.{HostActed}
use Rattle.hosts.specs.declared.acted.HostActed.TheVariants.{Of, Ended, Ahead, Gone, OtherPlaces}
use Rattle.hosts.specs.declared.host.Host.{Host}
use Rattle.hosts.specs.declared.opens.Opens.{Ghosts}

-- a value is offered to a node that is up and leads, and its next place is beyond the first ones, so many
abbrev pub seat_beyond : {N : Type 0} {g : Nodes N} → ℕ → Seat N g → Ask → Bool
seat_beyond {N} {g} places seat ask = is_offer ask && (is_up seat && leads_beyond places (g.role (node_of seat)))

-- a node in its seat was asked so
abbrev pub SeatActs : {N : Type 0} {g : Nodes N} → ℕ → Seat N g → Ask → HostActed → Seat N g → Type 0
SeatActs places old ask (Of acted) new =
    (seat_beyond places old ask ≡ false) × Acts old ask (told acted) (letters_of acted) (outputs_of acted) new
SeatActs places old ask Ended new = (seat_beyond places old ask ≡ true) × (new ≡ old)
SeatActs places old ask Ahead new = ⊥
SeatActs places old ask Gone new = ⊥
SeatActs places old ask OtherPlaces new = ⊥

-- all but its nodes stays
pub record KeepsRest {O N : Type 0} {g : Ghosts O N} {h : Nodes N} (old new : Host O N g h) : Type 0 where
  pub opens : new.opens ≡ old.opens
  pub places : new.places ≡ old.places
  pub number : new.number ≡ old.number
  pub taken : new.taken ≡ old.taken
  pub cursor : new.cursor ≡ old.cursor
  pub scheduler : new.scheduler ≡ old.scheduler
  pub states : new.states ≡ old.states
  pub before : has_before new ≡ has_before old

-- its node of epoch e was asked so, and nothing else changed
pub record NodeActs {O N : Type 0} {g : Ghosts O N} {h : Nodes N} (old : Host O N g h) (e : ℕ) (ask : Ask) (acted : HostActed) (new : Host O N g h) : Type 0 where
  pub before : Seat N h
  pub after : Seat N h
  pub was : seat_of old e ≡ Some before
  pub is : seat_of new e ≡ Some after
  pub beyond : (s : Standing) → Stands before s → seat_beyond (places_of old) before ask ≡ is_beyond (places_of old) s ask
  pub acts : SeatActs (places_of old) before ask acted after
  pub others : (f : ℕ) → f ≢ e → seat_of new f ≡ seat_of old f
  pub rest : KeepsRest old new

-- who asks has as many places in an epoch, and epoch e is its own one, the one after, or the one before, if it has a
-- node of that
pub record IsAskedIn {O N : Type 0} {g : Ghosts O N} {h : Nodes N} (host : Host O N g h) (e said : ℕ) : Type 0 where
  pub places : said ≡ places_of host
  pub low : number_of host ≤ e + 1
  pub high : e ≤ number_of host + 1
  pub before : e + 1 ≡ number_of host → has_before host ≡ true

-- it has no node of an epoch below its own one
pub record IsWithout {O N : Type 0} {g : Ghosts O N} {h : Nodes N} (host : Host O N g h) (e : ℕ) : Type 0 where
  pub below : e < number_of host
  pub far : e + 1 ≡ number_of host → has_before host ≡ false

-- why who has so many places may ask nothing of the node of epoch e
abbrev pub IsRefusedSo : {O N : Type 0} {g : Ghosts O N} {h : Nodes N} → Host O N g h → (e said : ℕ) → HostActed → Type 0
IsRefusedSo host e said (Of acted) = ⊥
IsRefusedSo host e said Ended = ⊥
IsRefusedSo host e said Ahead = (said ≡ places_of host) × (number_of host + 1 < e)
IsRefusedSo host e said Gone = (said ≡ places_of host) × IsWithout host e
IsRefusedSo host e said OtherPlaces = said ≢ places_of host

-- it was asked so of the node of epoch e, by who has so many places in an epoch: that node does it, or nothing changes
abbrev pub ActsIn : {O N : Type 0} {g : Ghosts O N} {h : Nodes N} → Host O N g h → (e said : ℕ) → Ask → HostActed → Host O N g h → Type 0
ActsIn old e said ask (Of acted) new = (said ≡ places_of old) × NodeActs old e ask (Of acted) new
ActsIn old e said ask Ended new = (said ≡ places_of old) × NodeActs old e ask Ended new
ActsIn old e said ask Ahead new = (said ≡ places_of old) × (number_of old + 1 < e) × (new ≡ old)
ActsIn old e said ask Gone new = (said ≡ places_of old) × IsWithout old e × (new ≡ old)
ActsIn old e said ask OtherPlaces new = (said ≢ places_of old) × (new ≡ old)
