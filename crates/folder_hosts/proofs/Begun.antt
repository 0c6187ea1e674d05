-- A node that started beside a store, as the node of an epoch.
use Rattle.std.proofs.Common.{◌≡◌, ◌∙◌, ℕ, Bool, IsTrue, inl, inr, sym, ap, subst, true≢false}
use Rattle.std.proofs.lemmas.Bool.{cases_Bool}
use Rattle.acceptor.specs.Content.{AreRowsFrom, Content}
use Rattle.acceptor.specs.Found.{Findable, Holds}
use Rattle.folder_hosts.specs.Databases.{IsBegun, KeepsDatabases}
use Rattle.hosts.specs.Opening.{IsOpenedAt, KeepsBeginnings}
use Rattle.hosts.specs.Views.{AreBegun}
use Rattle.kept_node.specs.declared.store.WriteStore.{Ghosts as Stores}
use Rattle.node.specs.Calls.{Who}
use Rattle.node.specs.View.{Standing, View, started}
use Rattle.node.specs.View.Standing.{Running}
use Rattle.stored_nodes.specs.Starts.{HasStartedBeside}

module _ {D W N : Type 0} (h : Stores W) (begins : D → ℕ → Bool → Content → Type 0) (d : D) (e : ℕ) (who : N → Who) (stands : N → Standing → Type 0) (count number : ℕ) (is_new : Bool)
    (node : N) (store : W) (it : HasStartedBeside who stands (h.honest store) (h.may_find store) (begins d e) count number is_new node) where
  -- it began over such a content, whether the store is honest or not
  pub opened_over : (c : Content) × IsBegun h begins d e c × stands node (Running (started c))
  opened_over = elim (cases_Bool (h.honest store)) [
    | inl is ↦ let had = it.over is in (had.0, record { is_new = is_new; store = store; over = λ _. (had.2, had.1) }, had.3)
    | inr lie ↦ (it.started_over.0, record { is_new = is_new; store = store; over = λ is. absurd (true≢false (sym is ∙ lie)) }, it.started_over.1)
  ]

  -- an honest store holds what it holds
  pub held_beside : IsTrue (h.honest store) → (view : View) × stands node (Running view) × Holds (h.may_find store) view.content × AreRowsFrom 1 view.content.votes
  held_beside is = let had = it.over is in (started had.0, had.3, had.2, (it.sound is had.0 had.2).0)

-- so did a node that has it inside
pub opened_at : {D W N K : Type 0} (h : Stores W) (begins : D → ℕ → Bool → Content → Type 0) (d : D) (e : ℕ) (who : N → Who) (stands : N → Standing → Type 0) (me : ℕ × ℕ) (is_new : Bool) (node : N) (store : W)
    → HasStartedBeside who stands (h.honest store) (h.may_find store) (begins d e) me.1 me.0 is_new node → (inner : K → N) (honest : K → Bool) (kept : K) → inner kept ≡ node
    → IsOpenedAt (λ k. who (inner k)) honest (λ k s. stands (inner k) s) me (IsBegun h begins d e) kept
opened_at h begins d e who stands me is_new node store it inner honest kept same = record {
  id = ap (λ n. (who n).id) same ∙ it.id;
  members = ap (λ n. (who n).members) same ∙ it.members;
  up = ap (λ n. (who n).down) same ∙ it.up;
  begins = λ _. let over = opened_over h begins d e who stands me.1 me.0 is_new node store it in (over.0, over.1, subst (λ n. stands n (Running (started over.0))) (sym same) over.2);
}

-- what has started over what may be begun over later has over what might be before
pub beside_before : {D N : Type 0} (member_of : D → ℕ × ℕ) (begins : D → ℕ → Bool → Content → Type 0) (old new : D) → KeepsDatabases member_of begins old new
    → (who : N → Who) (stands : N → Standing → Type 0) (honest : Bool) (held : Findable) (e : ℕ) (is_new : Bool) (node : N)
    → HasStartedBeside who stands honest held (begins new e) (member_of new).1 (member_of new).0 is_new node → HasStartedBeside who stands honest held (begins old e) (member_of old).1 (member_of old).0 is_new node
beside_before member_of begins old new keeps who stands honest held e is_new node it = record {
  id = it.id ∙ ap (λ (m : ℕ × ℕ). m.0) keeps.member;
  members = it.members ∙ ap (λ (m : ℕ × ℕ). m.1) keeps.member;
  up = it.up;
  started_over = it.started_over;
  over = λ is. let had = it.over is in (had.0, (had.1.0, keeps.begins e is_new had.0 had.1.1), had.2, had.3);
  same = it.same;
  sound = it.sound;
}

-- kept once and then again
pub keeps_both : {D : Type 0} (member_of : D → ℕ × ℕ) (begins : D → ℕ → Bool → Content → Type 0) (old mid new : D) → KeepsDatabases member_of begins old mid → KeepsDatabases member_of begins mid new
    → KeepsDatabases member_of begins old new
keeps_both member_of begins old mid new one two = record {
  member = two.member ∙ one.member;
  begins = λ e is_new c is. one.begins e is_new c (two.begins e is_new c is);
}

-- what may be begun over later might be before
pub begun_before : {D W : Type 0} (h : Stores W) (member_of : D → ℕ × ℕ) (begins : D → ℕ → Bool → Content → Type 0) (old new : D) → KeepsDatabases member_of begins old new
    → (e : ℕ) (c : Content) → IsBegun h begins new e c → IsBegun h begins old e c
begun_before h member_of begins old new keeps e c it = record {
  is_new = it.is_new;
  store = it.store;
  over = λ is. let had = it.over is in (had.0, (had.1.0, keeps.begins e it.is_new c had.1.1));
}

-- so of contents
pub all_begun_before : {begins others : ℕ → Content → Type 0} (first last : ℕ) (contents : ℕ → Content) → ((e : ℕ) (c : Content) → begins e c → others e c) → AreBegun begins first last contents → AreBegun others first last contents
all_begun_before first last contents more it = record { begun = λ e low high. more e (contents e) (it.begun e low high); others = it.others }

-- so of what opens nodes over them
pub keeps_beginnings : {O D W : Type 0} (h : Stores W) (databases : O → D) (member_of : D → ℕ × ℕ) (begins : D → ℕ → Bool → Content → Type 0) (old new : O)
    → KeepsDatabases member_of begins (databases old) (databases new) → KeepsBeginnings (λ o. member_of (databases o)) (λ o. IsBegun h begins (databases o)) old new
keeps_beginnings h databases member_of begins old new keeps = record {
  member = keeps.member;
  begins = λ e c. begun_before h member_of begins (databases old) (databases new) keeps e c;
}
