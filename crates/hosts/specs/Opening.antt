-- How the node of an epoch is opened, and the state at its start kept.
use Rattle.std.specs.Prelude.{◌≡◌, ℕ, Bool, false, IsTrue, List, [], ◌∷◌}
use Rattle.acceptor.specs.Content.{Content}
use Rattle.node.specs.Calls.{Who}
use Rattle.node.specs.View.{Standing, started}
use Rattle.node.specs.View.Standing.{Running}

-- a node is this member of as many, is up, and began over such a content if its records are honest
pub record IsOpenedAt {N : Type 0} (who : N → Who) (honest : N → Bool) (stands : N → Standing → Type 0) (me : ℕ × ℕ) (Over : Content → Type 0) (node : N) : Type 0 where
  pub id : (who node).id ≡ me.0
  pub members : (who node).members ≡ me.1
  pub up : (who node).down ≡ false
  pub begins : IsTrue (honest node) → (c : Content) × Over c × stands node (Running (started c))

-- its nodes stay the same member, and begin over nothing over which they didn't before
pub record KeepsBeginnings {O : Type 0} (member_of : O → ℕ × ℕ) (begins_of : O → ℕ → Content → Type 0) (old new : O) : Type 0 where
  pub member : member_of new ≡ member_of old
  pub begins : (e : ℕ) (c : Content) → begins_of new e c → begins_of old e c

-- the nodes of these epochs were opened, one after another
abbrev pub OpensAll : {O : Type 0} → (O → ℕ → O → Type 0) → O → List ℕ → O → Type 0
OpensAll opens_node old [] new = new ≡ old
OpensAll {O} opens_node old (e ∷ es) new = (mid : O) × opens_node old e mid × OpensAll opens_node mid es new

-- the state of an epoch, of these bytes, was kept once the nodes of these epochs were opened, and before what isn't
-- needed then was let go
pub record KeepsState {O : Type 0} (opens_node : O → ℕ → O → Type 0) (keeps_state : O → ℕ → List ℕ → O → Type 0) (lets_it_go : O → ℕ → O → Type 0)
    (epochs : List ℕ) (e : ℕ) (bytes : List ℕ) (old new : O) : Type 0 where
  pub opened : O
  pub stored : O
  pub opens : OpensAll opens_node old epochs opened
  pub keeps : keeps_state opened e bytes stored
  pub lets_go : lets_it_go stored e new
