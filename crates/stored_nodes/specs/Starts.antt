-- How a node over files of its own starts, and what comes of it.
use Rattle.std.specs.Prelude.{◌≡◌, ◌⊎◌, ℕ, Bool, IsTrue, Option, Some, None, false}
use Rattle.acceptor.specs.Content.{Content, IsSound, no_content}
use Rattle.acceptor.specs.Found.{Findable, Holds}
use Rattle.node.specs.View.{Standing, View, started}
use Rattle.node.specs.View.Standing.{Running}
use Rattle.node.specs.Calls.{Who}

-- a node that is new or goes on begins over this content: one that is found so, and none if it is new
abbrev pub BeginsOver : (Bool → Content → Type 0) → Bool → Content → Type 0
BeginsOver found is_new c = (IsTrue is_new → c ≡ no_content) × found is_new c

-- a node of this number and so many members is up; if its records are honest, it is as one that starts over such a
-- content
pub record HasStarted {N : Type 0} (who : N → Who) (honest : N → Bool) (stands : N → Standing → Type 0)
    (found : Bool → Content → Type 0) (count number : ℕ) (is_new : Bool) (node : N) : Type 0 where
  pub id : (who node).id ≡ number
  pub members : (who node).members ≡ count
  pub up : (who node).down ≡ false
  pub over : IsTrue (honest node) → (c : Content) × BeginsOver found is_new c × stands node (Running (started c))

-- the answer is one that may come of a node that isn't honest, or that began over such a content
abbrev pub ComesOfStart : {A : Type 0} → (Option Content → A → Type 0) → (Bool → Content → Type 0) → Bool → A → Type 0
ComesOfStart comes found is_new answer = comes None answer ⊎ ((c : Content) × BeginsOver found is_new c × comes (Some c) answer)

-- a node in memory, of this number and so many members, is up beside the records of its files, as one that starts over
-- some content. If these are honest, that is such a content, which they hold and which is sound, and it may have no other
pub record HasStartedBeside {N : Type 0} (who : N → Who) (stands : N → Standing → Type 0) (honest : Bool) (held : Findable)
    (found : Bool → Content → Type 0) (count number : ℕ) (is_new : Bool) (node : N) : Type 0 where
  pub id : (who node).id ≡ number
  pub members : (who node).members ≡ count
  pub up : (who node).down ≡ false
  pub started_over : (c : Content) × stands node (Running (started c))
  pub over : IsTrue honest → (c : Content) × BeginsOver found is_new c × Holds held c × stands node (Running (started c))
  pub same : IsTrue honest → (c : Content) → Holds held c → (view : View) → stands node (Running view) → view.content ≡ c
  pub sound : IsTrue honest → (c : Content) → Holds held c → IsSound c
