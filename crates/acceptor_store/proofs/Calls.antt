-- What a call on the records does, by what its statement did.
use Rattle.std.proofs.Common.{◌≡◌, inl, inr, ℕ, Bool, true, false, Some, None, Option, Ok, Err, IsTrue, sym, ap, subst}
use Rattle.std.proofs.Common.{subst₂, ◌∙◌, arith}
use Rattle.acceptor_store.proofs.Words.{no_doubt, clean_of, Ghosts, Trees, HasCleanDisk, Survives, Held, state, Content}
use Rattle.acceptor_store.proofs.Words.{Write, after_write, KeepsTrust, Writes, IsHarmless, Findable, Holds}
use Rattle.acceptor_store.proofs.Words.{AddsNothing, AddsOnly, FindsSame, Keeps, HasMade, MayHaveMade, RecordsFault}
use Rattle.acceptor_store.proofs.Words.{Owner, AreTablesFor, Serves, ServesFor, StillServes, HasCounted, MayHaveCounted}
use Rattle.acceptor_store.proofs.Words.{Numbers, survives_weaker}
use Rattle.acceptor_store.proofs.Words.{AreNumbersOf, Linked, MayFind, MayFindIn, IsHonest, is_clean_in, is_honest}
use Rattle.acceptor_store.proofs.Words.{held_of, IsLinked, IsServing, Knows}
use Rattle.acceptor_store.proofs.Found.{served, now_holds, may_hold, only_adds, same_found, no_more, keeps_err}

-- the records have this connection, and what is known of it
pub record Entered {S : Type 0} (g : Ghosts S) (self : Linked S) (old : Held S) (owner : Option Owner) (numbers : Numbers) : Type 0 where
  pub at : self.held ≡ Some old
  pub own : self.owner ≡ owner
  pub known : HasCleanDisk (state g old) → Knows g owner old numbers

-- what records are over is their connection, where there is one
pub held_there : {S : Type 0} (conn was : Option (Held S)) (old : Held S) → conn ≡ Some old → held_of conn was ≡ Some old
held_there conn was old is = ap (λ c. held_of c was) is

pub entered : {S : Type 0} (g : Ghosts S) {view self : Linked S} {old : Held S} → view ≡ self → (conn was : Option (Held S)) → view.held ≡ held_of conn was → conn ≡ Some old
    → IsLinked g view.owner conn was view.is_up view.numbers → view.is_up ≡ true → Entered g self old view.owner view.numbers
entered g {view} {self} {old} same conn was held some linked up = record {
  at = sym (ap (λ (r : Linked _). r.held) same) ∙ held ∙ held_there conn was old some;
  own = sym (ap (λ (r : Linked _). r.owner) same);
  known = λ clean. (subst (λ h. IsLinked g view.owner h was view.is_up view.numbers) some linked clean).1 up;
}

module _ {S : Type 0} (g : Ghosts S) (settled : (s : S) (db : Trees) → IsTrue (g.view s).is_open → g.recovers s db → db ≡ (g.view s).committed)
    (stays : (s : S) → IsTrue (g.view s).is_open → g.recovers s (g.view s).committed) {self : Linked S} {old : Held S} {owner : Option Owner} {numbers : Numbers} (it : Entered g self old owner numbers) (new : Held S)
    {Commits : Trees → Type 0} (survives : Survives (state g old) (state g new) Commits) where
  clean_then : IsTrue (state g new).is_clean → HasCleanDisk (state g old)
  clean_then h = omega (arith, survives.clean, no_doubt _ h)

  from_self : (P : Findable → Type 0) → P (MayFindIn g owner old) → P (MayFind g self.owner self.held)
  from_self P p = subst₂ (λ o h. P (MayFind g o h)) (sym it.own) (sym it.at) p

  to_old : (P : Findable → Type 0) → P (MayFind g self.owner self.held) → P (MayFindIn g owner old)
  to_old P p = subst₂ (λ o h. P (MayFind g o h)) it.own it.at p

  pub honest : IsTrue (state g new).is_clean → IsHonest g self
  honest now = subst (λ held. IsTrue (is_clean_in g held)) (sym it.at) (clean_of _ (clean_then now))

  pub trust : (up linked : Bool) (numbers : Numbers) (failures : ℕ)
      → KeepsTrust (is_honest g) (λ r. is_clean_in g r.held) self (record { held = Some new; is_up = up; is_linked = linked; numbers = numbers; failures = failures; owner = owner })
  trust up linked numbers failures = record { honest = honest; clean = honest; sure = λ clean _. clean }

  pub value_for : (V : Content → Type 0) → (HasCleanDisk (state g new) → (c : Content) → ServesFor owner (state g old) c → V c) → IsTrue (state g new).is_clean
      → (c : Content) → Holds (MayFind g self.owner self.held) c → V c
  value_for V read h c holds =
      let was = it.known (clean_then h) in
      subst V (served g settled stays owner old new was.0 was.1.2.serves c (to_old (λ f. Holds f c) holds)) (read (no_doubt _ h) was.0 was.1.2.serves)

  pub value : (V : Content → Type 0) → (HasCleanDisk (state g new) → (c : Content) → Serves (state g old) c → V c) → IsTrue (state g new).is_clean
      → (c : Content) → Holds (MayFind g self.owner self.held) c → V c
  value V read = value_for V (λ clean c was. read clean c (owner, was))

  pub same : (HasCleanDisk (state g new) → StillServes (state g old) (state g new)) → IsTrue (state g new).is_clean → FindsSame (MayFind g self.owner self.held) (MayFindIn g owner new)
  same still h =
      let was = it.known (clean_then h) in
      from_self (λ f. FindsSame f (MayFindIn g owner new)) (same_found g settled stays owner old new was.0 was.1.2.serves (still (no_doubt _ h) owner was.1.0 was.0 was.1.2).serves)

  pub kept : (T : Type 0) (e : RecordsFault) → (IsHarmless e → HasCleanDisk (state g new) → StillServes (state g old) (state g new)) → ((c : Content) (db : Trees) → Serves (state g old) c → Commits db → ⊥)
      → IsTrue (state g new).is_clean → Keeps {T = T} (Err e) (MayFind g self.owner self.held) (MayFindIn g owner new)
  kept T e still none h =
      let was = it.known (clean_then h) in
      keeps_err T e (MayFind g self.owner self.held) (MayFindIn g owner new) (λ harmless. same (still harmless) h)
      (from_self (λ f. AddsNothing f (MayFindIn g owner new)) (no_more g owner old new Commits (λ db. none was.0 db (owner, was.1.2.serves)) (no_doubt _ h) survives))

  pub made : (w : Write) (next : Option ℕ) → (HasCleanDisk (state g new) → HasCounted owner numbers.count next (state g old) (state g new) w) → IsTrue (state g new).is_clean → HasMade (MayFind g self.owner self.held) (MayFindIn g owner new) w
  made w next written h =
      let was = it.known (clean_then h) in
      from_self (λ f. HasMade f (MayFindIn g owner new) w) (now_holds g settled stays owner old new was.0 was.1.2.serves w (written (no_doubt _ h) was.0 was.1).2.serves)

module _ {S : Type 0} (g : Ghosts S) (settled : (s : S) (db : Trees) → IsTrue (g.view s).is_open → g.recovers s db → db ≡ (g.view s).committed)
    (stays : (s : S) → IsTrue (g.view s).is_open → g.recovers s (g.view s).committed) {self : Linked S} {old : Held S} {owner : Option Owner} {numbers : Numbers} (it : Entered g self old owner numbers) (new : Held S)
    (w : Write) (survives : Survives (state g old) (state g new) (MayHaveCounted owner numbers.count (state g old) w)) where
  -- what a crash leaves of what is served
  may_leave : (was : Knows g owner old numbers) → Survives (state g old) (state g new) (λ db. AreTablesFor owner db (after_write was.0 (Some w)))
  may_leave was = survives_weaker (state g old) (state g new) _ _ (λ _ db wrote. (wrote was.0 was.1).2.0) survives

  in_doubt : IsTrue (state g new).is_clean → MayHaveMade (MayFind g self.owner self.held) (MayFindIn g owner new) w
  in_doubt h =
      let clean : HasCleanDisk (state g new) = no_doubt _ h in
      let before : HasCleanDisk (state g old) = omega (arith, survives.clean, clean) in
      let was = it.known before in
      subst₂ (λ o held. MayHaveMade (MayFind g o held) (MayFindIn g owner new) w) (sym it.own) (sym it.at) (may_hold g settled stays owner old new was.0 was.1.2.serves w clean (may_leave was))

  adds_only : IsTrue (state g new).is_clean → AddsOnly (MayFind g self.owner self.held) (MayFindIn g owner new) w
  adds_only h =
      let clean : HasCleanDisk (state g new) = no_doubt _ h in
      let before : HasCleanDisk (state g old) = omega (arith, survives.clean, clean) in
      let was = it.known before in
      subst₂ (λ o held. AddsOnly (MayFind g o held) (MayFindIn g owner new) w) (sym it.own) (sym it.at) (only_adds g settled stays owner old new was.0 was.1.2.serves w clean (may_leave was))

  -- a write that was made, and one that wasn't
  pub written : {T : Type 0} (x : T) (next : Option ℕ) → (HasCleanDisk (state g new) → HasCounted owner numbers.count next (state g old) (state g new) w) → IsTrue (state g new).is_clean
      → Writes (Ok x) (MayFind g self.owner self.held) (MayFindIn g owner new) w
  written x next wrote h = record { ok = made g settled stays it new survives w next wrote h; harmless = tt; doubt = in_doubt h; only = adds_only h }

  pub unwritten : {T : Type 0} (e : RecordsFault) → (IsHarmless e → HasCleanDisk (state g new) → StillServes (state g old) (state g new)) → IsTrue (state g new).is_clean
      → Writes {T = T} (Err e) (MayFind g self.owner self.held) (MayFindIn g owner new) w
  unwritten e still h = record { ok = tt; harmless = λ harmless. same g settled stays it new survives (still harmless) h; doubt = in_doubt h; only = adds_only h }

-- what stays true of the fields where a write was made
pub linked_made : {S : Type 0} (g : Ghosts S) (was : Option (Held S)) {owner : Option Owner} {held : Option (Held S)} {old : Held S} (new : Held S) {is_up : Bool} {had now : Numbers} (w : Write) → held ≡ Some old
    → IsLinked g owner held was is_up had → is_up ≡ true
    → Survives (state g old) (state g new) (MayHaveCounted owner had.count (state g old) w) → (HasCleanDisk (state g new) → HasCounted owner had.count now.count (state g old) (state g new) w)
    → (HasCleanDisk (state g new) → (c : Content) → ServesFor owner (state g old) c → AreNumbersOf had c → AreNumbersOf now (after_write c (Some w)))
    → IsServing g owner new is_up now
linked_made g was {owner} {held} {old} new {is_up} {had} {now} w some linked up survives written numbers clean =
    let before : HasCleanDisk (state g old) = omega (arith, survives.clean, clean) in
    let it = subst (λ h. IsLinked g owner h was is_up had) some linked before in
    let knew = it.1 up in (
      λ db may. elim (survives.crash clean db may) [ inl stood ↦ it.0 db stood | inr wrote ↦ ∣ (after_write knew.0 (Some w), (wrote knew.0 knew.1).2.0) ∣₁ ],
      λ _. (after_write knew.0 (Some w), written clean knew.0 knew.1, numbers clean knew.0 knew.1.2.serves knew.2),
    )

-- what is known in memory is what is held
module _ {S : Type 0} (g : Ghosts S) (settled : (s : S) (db : Trees) → IsTrue (g.view s).is_open → g.recovers s db → db ≡ (g.view s).committed)
    (stays : (s : S) → IsTrue (g.view s).is_open → g.recovers s (g.view s).committed) where
  known_in : (owner : Option Owner) (conn was : Option (Held S)) (is_up : Bool) (numbers : Numbers) → IsLinked g owner conn was is_up numbers → is_up ≡ true
      → IsTrue (is_clean_in g (held_of conn was)) → (c : Content) → Holds (MayFind g owner (held_of conn was)) c → AreNumbersOf numbers c
  known_in owner None was is_up numbers linked up honest c holds = absurd (let e : false ≡ true = sym linked.1 ∙ up in cc)
  known_in owner (Some h) was is_up numbers linked up honest c holds =
      let knew = (linked (no_doubt _ honest)).1 up in
      subst (AreNumbersOf numbers) (served g settled stays owner h h knew.0 knew.1.2.serves c holds) knew.2

  pub value_known : {view self : Linked S} → view ≡ self → (conn was : Option (Held S)) → view.held ≡ held_of conn was → IsLinked g view.owner conn was view.is_up view.numbers → view.is_up ≡ true
      → IsHonest g self → (c : Content) → Holds (MayFind g self.owner self.held) c → AreNumbersOf view.numbers c
  value_known {view} {self} same conn was held linked up honest c holds =
      let there : self.held ≡ held_of conn was = sym (ap (λ (r : Linked S). r.held) same) ∙ held in
      let own : self.owner ≡ view.owner = sym (ap (λ (r : Linked S). r.owner) same) in
      known_in view.owner conn was view.is_up view.numbers linked up (subst (λ h. IsTrue (is_clean_in g h)) there honest) c
      (subst₂ (λ o h. Holds (MayFind g o h) c) own there holds)
