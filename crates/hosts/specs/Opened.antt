-- A node in its seat, as it was opened.
use Rattle.std.specs.Prelude.{◌≡◌, ℕ, true}
use Rattle.node.specs.declared.node.Node.{Ghosts as Nodes}
use Rattle.seats.specs.Occupant.{IsClean, IsHonest, is_up, node_of}
use Rattle.seats.specs.declared.seat.Seat.{Seat}
use Rattle.hosts.specs.Opening.{IsOpenedAt}
use Rattle.hosts.specs.declared.opens.Opens.{Ghosts}

-- the node of an epoch was opened, and has kept what its records hold
pub record IsOpened {O N : Type 0} {h : Nodes N} (g : Ghosts O N) (opens : O) (e : ℕ) (seat : Seat N h) : Type 0 where
  pub up : is_up seat ≡ true
  pub opened : IsOpenedAt h.who h.honest h.stands (g.member opens) (g.begins opens e) (node_of seat)
  pub sure : IsClean seat → IsHonest seat
  pub kept : g.has_kept (node_of seat)
