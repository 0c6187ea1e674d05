-- What new nodes, and those that go on, have in common.
use Rattle.std.proofs.Common.{◌≡◌, ◌∙◌, inl, inr, ℕ, Bool, IsTrue, true, false, Option, Some, None, refl, sym}
use Rattle.std.proofs.Common.{true≢false, subst, Result, IfOk, Ok, Err}
use Rattle.std.proofs.lemmas.Bool.{cases_Bool}
use Rattle.std.proofs.lemmas.Result.{IfOk-weaker}
use Rattle.acceptor.specs.Content.{Content, no_content}
use Rattle.acceptor.specs.Found.{Findable, Holds}
use Rattle.node.specs.Calls.{Who}
use Rattle.node.specs.View.{Standing, started}
use Rattle.node.specs.View.Standing.{Running}
use Rattle.seats.specs.Fresh.{IsFreshAt}
use Rattle.stored_nodes.specs.Starts.{ComesOfStart, HasStarted}

-- a fresh node has started as a new one
pub new_started : {N E : Type 0} (who : N → Who) (honest : N → Bool) (stands : N → Standing → Type 0) (found : Bool → Content → Type 0) (count number : ℕ) (is_new : Bool) (made : Result N E)
    → is_new ≡ true → IfOk made (IsFreshAt who honest stands count number) → IfOk made (λ node. IsTrue (honest node) → found true no_content) → IfOk made (HasStarted who honest stands found count number is_new)
new_started who honest stands found count number is_new (Ok node) new fresh begins = record {
  id = fresh.id;
  members = fresh.members;
  up = fresh.up;
  over = λ is. (no_content, ((λ _. refl), subst (λ b. found b no_content) (sym new) (begins is)), fresh.fresh is);
}
new_started who honest stands found count number is_new (Err fault) new fresh begins = tt

-- a node that goes on over what was found has started
pub old_started : {N E : Type 0} (who : N → Who) (honest : N → Bool) (stands : N → Standing → Type 0) (found : Bool → Content → Type 0) (count number : ℕ) (is_new : Bool) (made : Result N E)
    → is_new ≡ false
    → IfOk made (λ node. (who node).id ≡ number) → IfOk made (λ node. (who node).members ≡ count) → IfOk made (λ node. (who node).down ≡ false)
    → IfOk made (λ node. IsTrue (honest node) → (c : Content) × found false c × stands node (Running (started c)))
    → IfOk made (HasStarted who honest stands found count number is_new)
old_started who honest stands found count number is_new (Ok node) old id members up over =
    record {
      id = id;
      members = members;
      up = up;
      over = λ is.
          let had = over is in
          (had.0, ((λ new. absurd (true≢false (sym (subst (λ b. IsTrue b) old new)))), subst (λ b. found b had.0) (sym old) had.1), had.2);
    }
old_started who honest stands found count number is_new (Err fault) old id members up over = tt

-- it has started, whatever was found
pub started_anyhow : {N : Type 0} {who : N → Who} {honest : N → Bool} {stands : N → Standing → Type 0} {found : Bool → Content → Type 0} {count number : ℕ} {is_new : Bool} {node : N}
    → HasStarted who honest stands found count number is_new node → HasStarted who honest stands (λ _ _. Unit {0}) count number is_new node
started_anyhow it = record {
  id = it.id;
  members = it.members;
  up = it.up;
  over = λ is. let had = it.over is in (had.0, (had.1.0, tt), had.2);
}

-- what its use promises of it comes of its start
pub comes_of_start : {N A : Type 0} {who : N → Who} {honest : N → Bool} {stands : N → Standing → Type 0} {found : Bool → Content → Type 0} {count number : ℕ} {is_new : Bool} {node : N} (comes : Option Content → A → Type 0) (answer : A)
    → HasStarted who honest stands found count number is_new node → ((IsTrue (honest node) → ⊥) → comes None answer) → (IsTrue (honest node) → (c : Content) → stands node (Running (started c)) → comes (Some c) answer)
    → ComesOfStart comes found is_new answer
comes_of_start {honest = honest} {node = node} comes answer it lies tells = elim (cases_Bool (honest node)) [
  | inl is ↦ let had = it.over is in inr (had.0, had.1, tells is had.0 had.2)
  | inr lie ↦ inl (lies (λ is. absurd (true≢false (sym is ∙ lie))))
]

-- likewise where more may be found
pub comes_anyhow : {A E : Type 0} (comes : Option Content → A → Type 0) (found other : Bool → Content → Type 0) (is_new : Bool) (r : Result A E) → ((c : Content) → found is_new c → other is_new c)
    → IfOk r (ComesOfStart comes found is_new) → IfOk r (ComesOfStart comes other is_new)
comes_anyhow comes found other is_new r more = IfOk-weaker r _ _ (λ answer came. elim came [
  | inl none ↦ inl none
  | inr it ↦ inr (it.0, (it.1.0, more it.0 it.1.1), it.2)
])

-- a node that began over records which hold nothing begins over nothing that was found
pub begins_nothing : {N E : Type 0} (honest : N → Bool) (sure : Type 0) (held : Findable) (found : Content → Type 0) (made : Result N E) → (sure → (c : Content) × Holds held c × found c)
    → IfOk made (λ node. IsTrue (honest node) → (c : Content) → Holds held c → c ≡ no_content) → IfOk made (λ node. IsTrue (honest node) → sure) → IfOk made (λ node. IsTrue (honest node) → found no_content)
begins_nothing honest sure held found (Ok node) opened empty trusts = λ is. let had = opened (trusts is) in subst found (empty is had.0 had.1) had.2
begins_nothing honest sure held found (Err fault) opened empty trusts = tt
