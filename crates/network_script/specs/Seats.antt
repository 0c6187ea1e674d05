-- The nodes of a world, as a list.
use Rattle.std.specs.Prelude.{◌≡◌, List, [], ◌∷◌, true, map, length, All}
use Rattle.std.specs.List.{range_with_len}
use Rattle.node.specs.declared.node.Node.{Ghosts}
use Rattle.node.specs.View.{Standing}
use Rattle.seats.specs.declared.seat.Seat.{Seat}
use Rattle.seats.specs.Occupant.{Stands, IsClean, IsHonest, is_up, member, node_of}

-- two lists go together, place by place
abbrev pub Each : {A B : Type 0} → (A → B → Type 0) → List A → List B → Type 0
Each R [] [] = Unit {0}
Each R (x ∷ xs) (y ∷ ys) = R x y × Each R xs ys
Each R xs ys = ⊥

-- the nodes may stand so, each at its place
abbrev pub AreStandings : {N : Type 0} {g : Ghosts N} → List (Seat N g) → List Standing → Type 0
AreStandings {N} {g} seats nodes = Each (Stands {N = N} {g = g}) seats nodes

-- the nodes have the numbers from 0 on, and know how many they are
abbrev pub IsNumbered : {N : Type 0} {g : Ghosts N} → List (Seat N g) → Type 0
IsNumbered {N} {g} seats = map (member {N = N} {g = g}) seats ≡ map (λ k. (k, length seats)) (range_with_len 0 (length seats))

-- all of them
abbrev pub AllHonest : {N : Type 0} {g : Ghosts N} → List (Seat N g) → Type 0
AllHonest {N} {g} seats = All (IsHonest {N = N} {g = g}) seats

abbrev pub AllClean : {N : Type 0} {g : Ghosts N} → List (Seat N g) → Type 0
AllClean {N} {g} seats = All (IsClean {N = N} {g = g}) seats

-- stores that aren't all clean don't become so, and while all are clean honest nodes stay honest
pub record AllKeepTrust {N : Type 0} {g : Ghosts N} (old new : List (Seat N g)) : Type 0 where
  pub clean : AllClean new → AllClean old
  pub sure : AllClean new → AllHonest old → AllHonest new

-- a seat for each node, in order, and each is up
abbrev pub AreSeated : {N : Type 0} {g : Ghosts N} → List N → List (Seat N g) → Type 0
AreSeated {N} {g} nodes seats = (map (node_of {N = N} {g = g}) seats ≡ nodes) × All (λ seat. is_up seat ≡ true) seats
