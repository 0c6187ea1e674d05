-- Nodes that have heard nothing, over records that hold nothing.
use Rattle.std.specs.Prelude.{◌≡◌, ℕ, Bool, IsTrue, List, map, All, length, false}
use Rattle.std.specs.List.{range_with_len}
use Rattle.acceptor.specs.Content.{no_content}
use Rattle.node.specs.View.{Standing, started}
use Rattle.node.specs.View.Standing.{Running}
use Rattle.node.specs.Calls.{Who}

-- a node of this number and so many members is up, and fresh if its records are honest
pub record IsFreshAt {N : Type 0} (who : N → Who) (honest : N → Bool) (stands : N → Standing → Type 0) (count number : ℕ) (node : N) : Type 0 where
  pub id : (who node).id ≡ number
  pub members : (who node).members ≡ count
  pub up : (who node).down ≡ false
  pub fresh : IsTrue (honest node) → stands node (Running (started no_content))

-- the nodes are fresh, if their records are honest, and up, have the numbers from 0 on, and know how many they are
pub record AreFresh {N : Type 0} (who : N → Who) (honest : N → Bool) (stands : N → Standing → Type 0) (nodes : List N) : Type 0 where
  pub fresh : All (λ node. IsTrue (honest node) → stands node (Running (started no_content))) nodes
  pub up : All (λ node. (who node).down ≡ false) nodes
  pub numbered : map {B = ℕ × ℕ} (λ node. ((who node).id, (who node).members)) nodes ≡ map (λ k. (k, length nodes)) (range_with_len 0 (length nodes))
