-- A node in memory beside the records of its files.
use Rattle.std.proofs.Common.{◌≡◌, ◌∙◌, ℕ, Bool, false, IsTrue, Result, Ok, Err, IfOk, OnOk, refl}
use Rattle.std.proofs.Common.{sym, subst}
use Rattle.std.proofs.Math.Logic.{∥∥₁_map}
use Rattle.acceptor.specs.Content.{Content, IsSound, no_content}
use Rattle.acceptor.specs.Found.{Findable, FindsSame, Holds}
use Rattle.acceptor.specs.Kept.{is_it}
use Rattle.node.specs.Calls.{Who}
use Rattle.node.specs.Sched.{Stands}
use Rattle.node.specs.View.{Standing, View, started}
use Rattle.node.specs.View.Standing.{Running}
use Rattle.node.specs.declared.parts.Parts.{Parts}
use Rattle.seats.specs.Fresh.{IsFreshAt}
use Rattle.stored_nodes.specs.Starts.{HasStartedBeside}

-- records in memory hold what they are
pub holds_itself : (c : Content) → Holds (is_it c) c
holds_itself c = (∣ refl ∣₁, λ d is. is)

-- so a node over such stands for one content
pub stands_once : (n : Parts Content) (a b : View) → Stands is_it n (Running a) → Stands is_it n (Running b) → a.content ≡ b.content
stands_once n a b one two = sym (one.2.1 n.records refl) ∙ two.2.1 n.records refl

-- a node that began over records in memory: these hold nothing
pub held_nothing : {N E : Type 0} {P : N → Type 0} (copy : Content) (made : Result N E) → ((node : N) → P node → (c : Content) → Holds (is_it copy) c → c ≡ no_content) → IfOk made P → OnOk made (copy ≡ no_content)
held_nothing copy (Ok node) empty p = empty node p copy (holds_itself copy)
held_nothing copy (Err fault) empty p = tt

pub ok_weaker : {T E : Type 0} (made : Result T E) {P Q : Type 0} → (P → Q) → OnOk made P → OnOk made Q
ok_weaker (Ok x) f p = f p
ok_weaker (Err e) f p = tt

-- and it is as one that starts over them
pub starts_over : {N E : Type 0} (who : N → Who) (honest : N → Bool) (stands : N → Standing → Type 0) (count number : ℕ) (copy : Content) (made : Result N E) → ((node : N) → IsTrue (honest node)) → OnOk made (copy ≡ no_content)
    → IfOk made (IsFreshAt who honest stands count number) → IfOk made (λ node. stands node (Running (started copy)))
starts_over who honest stands count number copy (Ok node) sure nothing fresh = subst (λ c. stands node (Running (started c))) (sym nothing) (fresh.fresh (sure node))
starts_over who honest stands count number copy (Err fault) sure nothing fresh = tt

-- records in which the same may be found hold the same
pub holds_same : (old new : Findable) (c : Content) → FindsSame old new → Holds old c → Holds new c
holds_same old new c same holds = (∥∥₁_map holds.0 (λ x. (same c).0 x), λ d found. holds.1 d ((same d).1 found))

-- a node that started over a copy of what the records hold
pub started_beside : {N : Type 0} (who : N → Who) (stands : N → Standing → Type 0) (honest : Bool) (before held : Findable) (found : Bool → Content → Type 0) (count number : ℕ) (is_new : Bool) (node : N) (copy : Content)
    → (IsTrue honest → (c : Content) × Holds before c × found is_new c) → (IsTrue honest → (c : Content) → Holds before c → copy ≡ c) → (IsTrue honest → (c : Content) → Holds before c → IsSound c)
    → (IsTrue honest → FindsSame before held)
    → (who node).id ≡ number → (who node).members ≡ count → (who node).down ≡ false
    → (IsTrue is_new → copy ≡ no_content) → stands node (Running (started copy)) → ((view : View) → stands node (Running view) → view.content ≡ copy)
    → HasStartedBeside who stands honest held found count number is_new node
started_beside who stands honest before held found count number is_new node copy opened copied sound kept id members up new over same =
    let earlier : IsTrue honest → (c : Content) → Holds held c → Holds before c = λ is c holds. holds_same held before c (λ d. let both = kept is d in (both.1, both.0)) holds in
    record {
      id = id;
      members = members;
      up = up;
      started_over = (copy, over);
      over = λ is.
          let it = opened is in
          let equal = copied is it.0 it.1 in (
            it.0,
            ((λ begins. sym equal ∙ new begins), it.2),
            holds_same before held it.0 (kept is) it.1,
            subst (λ c. stands node (Running (started c))) equal over,
          );
      same = λ is c holds view at. same view at ∙ copied is c (earlier is c holds);
      sound = λ is c holds. sound is c (earlier is c holds);
    }

-- what has started has so likewise where more may be found
pub beside_more : {N S E : Type 0} (who : N → Who) (stands : N → Standing → Type 0) (honest : S → Bool) (held : S → Findable) (found other : Bool → Content → Type 0) (count number : ℕ) (is_new : Bool) (r : Result (N × S) E)
    → ((c : Content) → found is_new c → other is_new c)
    → IfOk r (λ x. HasStartedBeside who stands (honest x.1) (held x.1) found count number is_new x.0) → IfOk r (λ x. HasStartedBeside who stands (honest x.1) (held x.1) other count number is_new x.0)
beside_more who stands honest held found other count number is_new (Ok x) more it = record {
  id = it.id;
  members = it.members;
  up = it.up;
  started_over = it.started_over;
  over = λ is. let had = it.over is in (had.0, (had.1.0, more had.0 had.1.1), had.2, had.3);
  same = it.same;
  sound = it.sound;
}
beside_more who stands honest held found other count number is_new (Err fault) more it = tt
