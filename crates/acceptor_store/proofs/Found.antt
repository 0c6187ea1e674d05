-- What an open after a crash finds of a connection that serves the records.
use Rattle.std.proofs.Common.{◌≡◌, inl, inr, IsTrue, Option, Some, Err, sym, ap, subst, ◌∙◌}
use Rattle.acceptor_store.proofs.Words.{∥∥₁_map, Ghosts, Trees, Database, HasCleanDisk, Survives, Held, state, Content}
use Rattle.acceptor_store.proofs.Words.{Write, after_write, IsHarmless, Findable, Holds, AddsNothing, AddsOnly}
use Rattle.acceptor_store.proofs.Words.{FindsSame, Keeps, HasMade, MayHaveMade, RecordsFault, Owner, AreTablesFor}
use Rattle.acceptor_store.proofs.Words.{ServesFor, content_once, MayFindIn}
use Rattle.acceptor.specs.declared.records.RecordsFault.TheVariants.{Refused, Broken, OutOfMemory}
use Rattle.acceptor_store.proofs.Same.{which}

-- a fault keeps what is there, where it is one that does
pub keeps_err : (T : Type 0) (e : RecordsFault) (old new : Findable) → (IsHarmless e → FindsSame old new) → AddsNothing old new → Keeps {T = T} (Err e) old new
keeps_err T Refused old new same less = same tt
keeps_err T Broken old new same less = less
keeps_err T OutOfMemory old new same less = same tt

pub certain : (d c : Content) → ∥ d ≡ c ∥₁ → d ≡ c
certain d c known = elim (which c c d (∥∥₁_map known (λ e. inl e))) [ inl e ↦ e | inr e ↦ e ]

module _ {S : Type 0} (g : Ghosts S) (settled : (s : S) (db : Trees) → IsTrue (g.view s).is_open → g.recovers s db → db ≡ (g.view s).committed)
    (stays : (s : S) → IsTrue (g.view s).is_open → g.recovers s (g.view s).committed) (owner : Option Owner) (h : Held S) (c : Content) (serves : ServesFor owner (state g h) c) where
  pub found_is : (d : Content) → MayFindIn g owner h d → d ≡ c
  found_is d known = certain d c (∥∥₁_map known (λ it.
      let db : it.0 ≡ (state g h).now.trees = settled h.store it.0 serves.is_open it.1 ∙ ap (λ (x : Database). x.trees) (sym serves.settled) in
      content_once owner (state g h).now.trees d c (subst (λ x. AreTablesFor owner x d) db it.2) serves.tables))

  pub found_it : MayFindIn g owner h c
  found_it = ∣ ((state g h).committed.trees, stays h.store serves.is_open, subst (λ (x : Database). AreTablesFor owner x.trees c) serves.settled serves.tables) ∣₁

module _ {S : Type 0} (g : Ghosts S) (settled : (s : S) (db : Trees) → IsTrue (g.view s).is_open → g.recovers s db → db ≡ (g.view s).committed)
    (stays : (s : S) → IsTrue (g.view s).is_open → g.recovers s (g.view s).committed) (owner : Option Owner) (old new : Held S) (was : Content) (serves : ServesFor owner (state g old) was) where
  -- the content that is held is the one that is served
  pub served : (c : Content) → Holds (MayFindIn g owner old) c → was ≡ c
  served c holds = holds.1 was (found_it g settled stays owner old was serves)

  -- a write that was made
  pub now_holds : (w : Write) → ServesFor owner (state g new) (after_write was (Some w)) → HasMade (MayFindIn g owner old) (MayFindIn g owner new) w
  now_holds w serves_now c holds =
      let now = after_write was (Some w) in
      let same : now ≡ after_write c (Some w) = ap (λ (x : Content). after_write x (Some w)) (served c holds) in
      (∣ subst (MayFindIn g owner new) same (found_it g settled stays owner new now serves_now) ∣₁, λ d it. found_is g settled stays owner new now serves_now d it ∙ same)

  -- a write in doubt
  pub may_hold : (w : Write) → HasCleanDisk (state g new) → Survives (state g old) (state g new) (λ db. AreTablesFor owner db (after_write was (Some w))) → MayHaveMade (MayFindIn g owner old) (MayFindIn g owner new) w
  may_hold w clean survives c holds d known = which c (after_write c (Some w)) d (∥∥₁_map known (λ it. elim (survives.crash clean it.0 it.1) [
    | inl before ↦ inl (holds.1 d ∣ (it.0, before, it.2) ∣₁)
    | inr wrote ↦ inr (content_once owner it.0 d (after_write was (Some w)) it.2 wrote ∙ ap (λ (x : Content). after_write x (Some w)) (served c holds))
  ]))

  -- it adds nothing but its own content
  pub only_adds : (w : Write) → HasCleanDisk (state g new) → Survives (state g old) (state g new) (λ db. AreTablesFor owner db (after_write was (Some w))) → AddsOnly (MayFindIn g owner old) (MayFindIn g owner new) w
  only_adds w clean survives d known = ∥∥₁_map known (λ it. elim (survives.crash clean it.0 it.1) [
    | inl before ↦ inl ∣ (it.0, before, it.2) ∣₁
    | inr wrote ↦ inr (was, found_it g settled stays owner old was serves, content_once owner it.0 d (after_write was (Some w)) it.2 wrote)
  ])

  -- a call that left it open and changed nothing
  pub same_found : ServesFor owner (state g new) was → FindsSame (MayFindIn g owner old) (MayFindIn g owner new)
  same_found serves_now d = (
    λ it. subst (MayFindIn g owner new) (sym (found_is g settled stays owner old was serves d it)) (found_it g settled stays owner new was serves_now),
    λ it. subst (MayFindIn g owner old) (sym (found_is g settled stays owner new was serves_now d it)) (found_it g settled stays owner old was serves),
  )

-- a call that commits nothing
pub no_more : {S : Type 0} (g : Ghosts S) (owner : Option Owner) (old new : Held S) (Commits : Trees → Type 0) → ((db : Trees) → Commits db → ⊥) → HasCleanDisk (state g new) → Survives (state g old) (state g new) Commits
    → AddsNothing (MayFindIn g owner old) (MayFindIn g owner new)
no_more g owner old new Commits none clean survives d known = ∥∥₁_map known (λ it. (it.0, elim (survives.crash clean it.0 it.1) [ inl before ↦ before | inr wrote ↦ absurd (none it.0 wrote) ], it.2))
