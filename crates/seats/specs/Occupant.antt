-- What is seen of a seat.
use Rattle.std.specs.Prelude.{ℕ, Bool, IsTrue}
use Rattle.node.specs.declared.node.Node.{Ghosts}
use Rattle.node.specs.View.{Standing}
use Rattle.node.specs.Calls.{Who}
use Rattle.seats.specs.declared.seat.Seat.{Seat}
use Rattle.seats.specs.Seat.{Shown}

-- the node itself
abbrev pub node_of : {N : Type 0} {g : Ghosts N} → Seat N g → N
node_of {N} {g} seat = seat.node

-- whether it is up
abbrev pub is_up : {N : Type 0} {g : Ghosts N} → Seat N g → Bool
is_up {N} {g} seat = seat.up

-- who the node is, as it says
abbrev pub who_of : {N : Type 0} {g : Ghosts N} → Seat N g → Who
who_of {N} {g} seat = g.who (node_of seat)

-- its number, and of how many
abbrev pub member : {N : Type 0} {g : Ghosts N} → Seat N g → ℕ × ℕ
member {N} {g} seat = ((who_of seat).id, (who_of seat).members)

-- its records have returned what they committed
abbrev pub IsHonest : {N : Type 0} {g : Ghosts N} → Seat N g → Type 0
IsHonest {N} {g} seat = IsTrue (g.honest (node_of seat))

-- nothing below its records has failed silently
abbrev pub IsClean : {N : Type 0} {g : Ghosts N} → Seat N g → Type 0
IsClean {N} {g} seat = IsTrue (g.clean (node_of seat))

-- it may stand so in the world
abbrev pub Stands : {N : Type 0} {g : Ghosts N} → Seat N g → Standing → Type 0
Stands {N} {g} seat s = Shown (is_up seat) (g.stands (node_of seat)) s
