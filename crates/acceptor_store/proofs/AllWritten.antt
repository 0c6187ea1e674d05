-- What a batch of a node's writes does to the records, by what its transaction did.
use Rattle.std.proofs.Common.{◌≡◌, inl, inr, ℕ, suc, Bool, true, List, take, slice_get, Some, Option, Ok, Err, IsTrue}
use Rattle.std.proofs.Common.{refl, sym, subst, subst₂, ◌∙◌, arith}
use Rattle.node_writes.proofs.Callers.{lead_next, lead_once}
use Rattle.node_writes.specs.Writes.{LeadTo, SpellsOf, value_in}
use Rattle.node_writes.specs.Rows.{row_write}
use Rattle.node_writes.specs.declared.reading.Row.{Row}
use Rattle.node_writes.specs.declared.write_bytes.WriteBytes.{WriteBytes}
use Rattle.acceptor_store.specs.Batches.{AddsOnlyAll, HasMadeAll, MayHaveMadeAll, WritesAll}
use Rattle.acceptor_store.proofs.Words.{∥∥₁_map, no_doubt, Ghosts, Trees, HasCleanDisk, Survives, Held, state, Content}
use Rattle.acceptor_store.proofs.Words.{after_write, IsHarmless, Findable, RecordsFault, Owner, ServesFor, StillServes}
use Rattle.acceptor_store.proofs.Words.{Numbers, AreNumbersOf, Linked, MayFind, MayFindIn, IsLinked, IsServing}
use Rattle.acceptor_store.proofs.Words.{HasCountedAll, MayHaveCountedAll, ServesKnown, content_once}
use Rattle.acceptor_store.proofs.Same.{which}
use Rattle.acceptor_store.proofs.Found.{served, found_it, found_is}
use Rattle.acceptor_store.proofs.Calls.{Entered, same}

module _ {S : Type 0} (g : Ghosts S) (settled : (s : S) (db : Trees) → IsTrue (g.view s).is_open → g.recovers s db → db ≡ (g.view s).committed)
    (stays : (s : S) → IsTrue (g.view s).is_open → g.recovers s (g.view s).committed) (owner : Option Owner) (old new : Held S) (was : Content) (count : Option ℕ) (serves : ServesKnown owner count (state g old) was) (id : ℕ) (writes : List WriteBytes) where
  -- all were made
  all_held : (next : Option ℕ) → HasCountedAll owner count next id writes (state g old) (state g new) → HasMadeAll (MayFindIn g owner old) (MayFindIn g owner new) id writes
  all_held next wrote c holds =
      let it = wrote was serves in (
        it.0,
        subst (λ x. LeadTo id writes x it.0) (served g settled stays owner old new was serves.2.serves c holds) it.1,
        (∣ found_it g settled stays owner new it.0 it.2.2.serves ∣₁, λ d there. found_is g settled stays owner new it.0 it.2.2.serves d there),
      )

  -- all are there or none
  may_all_hold : HasCleanDisk (state g new) → Survives (state g old) (state g new) (MayHaveCountedAll owner count id writes (state g old)) → MayHaveMadeAll (MayFindIn g owner old) (MayFindIn g owner new) id writes
  may_all_hold clean survives c last holds led d known = which c last d (∥∥₁_map known (λ it. elim (survives.crash clean it.0 it.1) [
    | inl before ↦ inl (holds.1 d ∣ (it.0, before, it.2) ∣₁)
    | inr wrote ↦
        let made = wrote was serves in
        inr (content_once owner it.0 d made.0 it.2 made.2.2.0 ∙ lead_once id writes c made.0 last (subst (λ x. LeadTo id writes x made.0) (served g settled stays owner old new was serves.2.serves c holds) made.1) led)
  ]))

  -- nothing else is there
  all_only : HasCleanDisk (state g new) → Survives (state g old) (state g new) (MayHaveCountedAll owner count id writes (state g old)) → AddsOnlyAll (MayFindIn g owner old) (MayFindIn g owner new) id writes
  all_only clean survives d known = ∥∥₁_map known (λ it. elim (survives.crash clean it.0 it.1) [
    | inl before ↦ inl ∣ (it.0, before, it.2) ∣₁
    | inr wrote ↦
        let made = wrote was serves in
        inr (was, found_it g settled stays owner old was serves.2.serves, subst (LeadTo id writes was) (sym (content_once owner it.0 d made.0 it.2 made.2.2.0)) made.1)
  ])

module _ {S : Type 0} (g : Ghosts S) (settled : (s : S) (db : Trees) → IsTrue (g.view s).is_open → g.recovers s db → db ≡ (g.view s).committed)
    (stays : (s : S) → IsTrue (g.view s).is_open → g.recovers s (g.view s).committed) {self : Linked S} {old : Held S} {owner : Option Owner} {numbers : Numbers} (it : Entered g self old owner numbers) (new : Held S)
    (id : ℕ) (writes : List WriteBytes) (survives : Survives (state g old) (state g new) (MayHaveCountedAll owner numbers.count id writes (state g old))) where
  earlier : HasCleanDisk (state g new) → HasCleanDisk (state g old)
  earlier clean = omega (arith, survives.clean, clean)

  of_self : (P : Findable → Type 0) → P (MayFindIn g owner old) → P (MayFind g self.owner self.held)
  of_self P p = subst₂ (λ o h. P (MayFind g o h)) (sym it.own) (sym it.at) p

  in_doubt : HasCleanDisk (state g new) → MayHaveMadeAll (MayFind g self.owner self.held) (MayFindIn g owner new) id writes
  in_doubt clean =
      let was = it.known (earlier clean) in
      of_self (λ f. MayHaveMadeAll f (MayFindIn g owner new) id writes) (may_all_hold g settled stays owner old new was.0 numbers.count was.1 id writes clean survives)

  only : HasCleanDisk (state g new) → AddsOnlyAll (MayFind g self.owner self.held) (MayFindIn g owner new) id writes
  only clean =
      let was = it.known (earlier clean) in
      of_self (λ f. AddsOnlyAll f (MayFindIn g owner new) id writes) (all_only g settled stays owner old new was.0 numbers.count was.1 id writes clean survives)

  made : (next : Option ℕ) → (HasCleanDisk (state g new) → HasCountedAll owner numbers.count next id writes (state g old) (state g new)) → HasCleanDisk (state g new) → HasMadeAll (MayFind g self.owner self.held) (MayFindIn g owner new) id writes
  made next wrote clean =
      let was = it.known (earlier clean) in
      of_self (λ f. HasMadeAll f (MayFindIn g owner new) id writes) (all_held g settled stays owner old new was.0 numbers.count was.1 id writes next (wrote clean))

  -- writes that were made, and ones that weren't
  pub all_written : {T : Type 0} (x : T) (next : Option ℕ) → (HasCleanDisk (state g new) → HasCountedAll owner numbers.count next id writes (state g old) (state g new)) → IsTrue (state g new).is_clean
      → WritesAll (Ok x) (MayFind g self.owner self.held) (MayFindIn g owner new) id writes
  all_written x next wrote h = record { ok = made next wrote (no_doubt _ h); harmless = tt; doubt = in_doubt (no_doubt _ h); only = only (no_doubt _ h) }

  pub none_written : {T : Type 0} (e : RecordsFault) → (IsHarmless e → HasCleanDisk (state g new) → StillServes (state g old) (state g new)) → IsTrue (state g new).is_clean
      → WritesAll {T = T} (Err e) (MayFind g self.owner self.held) (MayFindIn g owner new) id writes
  none_written e still h = record { ok = tt; harmless = λ harmless. same g settled stays it new survives (still harmless) h; doubt = in_doubt (no_doubt _ h); only = only (no_doubt _ h) }

-- what stays true of the fields where all were made
pub linked_all : {S : Type 0} (g : Ghosts S) (was : Option (Held S)) {owner : Option Owner} {held : Option (Held S)} {old : Held S} (new : Held S) {is_up : Bool} {had now : Numbers} (id : ℕ) (writes : List WriteBytes)
    → held ≡ Some old → IsLinked g owner held was is_up had → is_up ≡ true
    → Survives (state g old) (state g new) (MayHaveCountedAll owner had.count id writes (state g old)) → (HasCleanDisk (state g new) → HasCountedAll owner had.count now.count id writes (state g old) (state g new))
    → (HasCleanDisk (state g new) → (c last : Content) → ServesKnown owner had.count (state g old) c → AreNumbersOf had c → LeadTo id writes c last → AreNumbersOf now last)
    → IsServing g owner new is_up now
linked_all g was {owner} {held} {old} new {is_up} {had} {now} id writes some linked up survives written numbers clean =
    let before : HasCleanDisk (state g old) = omega (arith, survives.clean, clean) in
    let it = subst (λ h. IsLinked g owner h was is_up had) some linked before in
    let knew = it.1 up in
    let made = written clean knew.0 knew.1 in (
      λ db may. elim (survives.crash clean db may) [ inl stood ↦ it.0 db stood | inr wrote ↦ let all = wrote knew.0 knew.1 in ∣ (all.0, all.2.2.0) ∣₁ ],
      λ _. (made.0, made.2, numbers clean knew.0 made.0 knew.1 knew.2 made.1),
    )

-- the numbers after the first i of a node's writes, and after one more
abbrev pub AreNumbersAfter : ℕ → List WriteBytes → ℕ → Numbers → Numbers → Type 0
AreNumbersAfter id writes i before now = (c : Content) → AreNumbersOf before c → (last : Content) × LeadTo id (take i writes) c last × AreNumbersOf now last

pub numbers_next : (id : ℕ) (writes : List WriteBytes) (i j : ℕ) (r : WriteBytes) (row : Row) (before now next : Numbers) → j ≡ suc i → slice_get writes i ≡ Some r → SpellsOf id r (row_write row (value_in r))
    → AreNumbersAfter id writes i before now → ((c : Content) (v : List ℕ) → AreNumbersOf now c → AreNumbersOf next (after_write c (row_write row v))) → AreNumbersAfter id writes j before next
numbers_next id writes i j r row before now next at_next there spells are raises c known =
    let it = are c known in (
      after_write it.0 (row_write row (value_in r)),
      lead_next id writes i j r (row_write row (value_in r)) c it.0 _ at_next refl there it.1 spells,
      raises it.0 (value_in r) it.2,
    )
