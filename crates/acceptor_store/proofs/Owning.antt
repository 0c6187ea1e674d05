-- What is known of a connection that was opened for an owner.
use Rattle.std.proofs.Common.{◌≡◌, ◌≢◌, ◌⊎◌, inl, inr, ℕ, Option, true, false, Bool, Some, None, IsSome, IsTrue, refl, sym, ap}
use Rattle.std.proofs.Common.{subst, ◌∙◌}
use Rattle.acceptor_store.proofs.Words.{Content, Ghosts, Trees, Database, State, HasCleanDisk, Survives, Held, state}
use Rattle.acceptor_store.proofs.Words.{survives_then, Third, Owner, schema_of, blank_schema, AreByRowid, AreTablesFor}
use Rattle.acceptor_store.proofs.Words.{AreReadAs, AreShaped, AreTablesOf, AreUncounted, Counted, CountsFor, Fourth, HadFor, IsReread, IsToCount}
use Rattle.acceptor_store.proofs.Words.{IsUnchanged, NamesAt, NamesNone, NamesOwner, ServesAs, ServesKnown, ServesRead}
use Rattle.acceptor_store.proofs.Words.{first_count, number_of, version_read}
use Rattle.acceptor_store_parts.specs.Making.{HoldsUncounted}
use Rattle.acceptor_store.proofs.Words.{IsOwner, HasFacts, HoldsNone, HoldsNoneOwned, IsBroken, IsUnowned}
use Rattle.acceptor_store.proofs.Words.{IsMade, MayBeMade, Owned, serves_for, tables_as, tables_for, Numbers, OpenFault}
use Rattle.acceptor_store.proofs.Words.{Foreign, OwnerFault, Open, Blank, Unowned, OtherNode, OtherMembers, Examines}
use Rattle.acceptor_store.proofs.Words.{Had, IsLeftWhole, MakesReady, SeesForeign, AdoptsFor, ExaminesFor}
use Rattle.acceptor_store.proofs.Words.{FindsFor, HadBefore, IsDue, IsDueBefore, IsLeftAs, IsLeftBefore, PreparesFor}
use Rattle.acceptor_store.specs.declared.OpenFault.TheVariants.{Refused, Broken, OutOfMemory}
use Rattle.acceptor_store.proofs.CountsKnown.{had_read, names_owned}
use Rattle.acceptor_store.proofs.Reopening.{by_rowid, still_reread}

-- tables by what was read of their table of facts
schema_read : (count : Option ℕ) → schema_of Third ≡ schema_of (version_read count)
schema_read None = refl
schema_read (Some n) = refl

pub has_read : (count : Option ℕ) (old mid : State) → old.now.schema ≡ schema_of Third → IsUnchanged old mid → mid.now.schema ≡ schema_of (version_read count)
has_read count old mid has same = ap (λ (d : Database). d.schema) same.0.now_is ∙ (has ∙ schema_read count)

shaped_read : (count : Option ℕ) (db : Trees) → AreShaped Third db → AreShaped (version_read count) db
shaped_read None db shaped = shaped
shaped_read (Some n) db shaped = shaped

pub reread_read : (count : Option ℕ) (old mid : State) → IsUnchanged old mid → IsReread Third old → IsReread (version_read count) mid
reread_read count old mid same it = still_reread (version_read count) old mid same (shaped_read count old.now.trees) it

tables_read : (owner : Owner) (count : Option ℕ) (db : Trees) (c : Content) → AreTablesOf (version_read count) db c → NamesAt owner count db → AreReadAs owner count db c
tables_read owner None db c tables names = (tables, names)
tables_read owner (Some n) db c tables names = (tables_for (Some owner) db c tables (n, names), names)

serves_read : (owner : Owner) (count : Option ℕ) (s : State) (c : Content) → ServesAs (version_read count) s c → NamesAt owner count s.now.trees → ServesRead owner count s c
serves_read owner None s c serves names = (serves, names)
serves_read owner (Some n) s c serves names = record { serves = serves_for (Some owner) s c serves (n, names); counted = names }

-- what a connection whose tables were all read serves for the owner that they name
module _ {S : Type 0} (g : Ghosts S) (old mid new : Held S) (owner : Owner) (count : Option ℕ) (read numbers : Numbers) (schema : (state g old).now.schema ≡ schema_of Third) (same : IsUnchanged (state g old) (state g mid))
    (later : (state g new).now ≡ (state g mid).now) (ballots : (numbers.tried ≡ read.tried) × (numbers.promised ≡ read.promised)) (count_is : numbers.count ≡ count) where
  pub examines_for : Examines g (version_read count) mid new read → (AreByRowid Third (state g old) → NamesAt owner count (state g old).now.trees) → ExaminesFor g owner old new numbers
  examines_for told named it =
      let ex = told (reread_read count (state g old) (state g mid) same it) in
      let here = named (by_rowid g Third old schema it) in
      let now : NamesAt owner count (state g new).now.trees = subst (λ (d : Database). NamesAt owner count d.trees) (sym (later ∙ same.0.now_is)) here in
      let tables : AreTablesOf (version_read count) (state g old).now.trees ex.0 = subst (λ (d : Database). AreTablesOf (version_read count) d.trees ex.0) same.0.now_is ex.1 in (
        ex.0,
        subst (λ k. AreReadAs owner k (state g old).now.trees ex.0) (sym count_is) (tables_read owner count (state g old).now.trees ex.0 tables here),
        ex.2,
        subst (λ k. ServesRead owner k (state g new) ex.0) (sym count_is) (serves_read owner count (state g new) ex.0 ex.3 now),
        record { tries = ap number_of ballots.0 ∙ ex.4.tries; promises = ap number_of ballots.1 ∙ ex.4.promises },
      )

-- rows that no owner wrote
pub none_owned : (count : Option ℕ) (db : Trees) → HoldsNone (version_read count) db → NamesNone count db → HoldsNoneOwned db
none_owned None db none only owner c fits (inl are) ours = only owner are.owned
none_owned None db none only owner c fits (inr are) ours = none c are.0 ours
none_owned (Some n) db none only owner c fits (inl are) ours = none c (tables_as (Some owner) db c are) ours
none_owned (Some n) db none only owner c fits (inr are) ours = only owner are.1

pub unnamed : (db : Trees) → ((owner : Owner) → IsOwner owner → NamesOwner owner db → ⊥) → HoldsNoneOwned db
unnamed db none owner c fits are ours = none owner fits (names_owned owner db c are)

-- reads of an owner's tables, one after another, commit nothing
pub two_leave : (count : Option ℕ) (old mid new : State) → Survives old mid (λ _. old.now.schema ≡ schema_of Third → ⊥) → Survives mid new (λ _. mid.now.schema ≡ schema_of (version_read count) → ⊥)
    → (HasCleanDisk mid → old.now.schema ≡ schema_of Third → IsUnchanged old mid) → (HasCleanDisk new → HasCleanDisk mid) → Survives old new (λ _. old.now.schema ≡ schema_of Third → ⊥)
two_leave count old mid new one two same before =
    survives_then old mid new _ _ _ (λ _ db other. other) (λ clean db other has. other (has_read count old mid has (same (before clean) has))) one two

-- and so is a fault of the schema
pub schema_due : {S : Type 0} (g : Ghosts S) (wanted : Owner) (is_new : Bool) (conn : Held S) (fault : OwnerFault)
    → ((fault ≡ Open Foreign) × IsBroken (state g conn).now.schema) ⊎ (((fault ≡ Unowned) × IsUnowned (state g conn).now.schema) ⊎ ((fault ≡ Open Refused) ⊎ (fault ≡ Open OutOfMemory)))
    → IsDue g wanted is_new conn fault
schema_due g wanted is_new conn fault (inl broken) = subst (IsDue g wanted is_new conn) (sym broken.0) (inl broken.1)
schema_due g wanted is_new conn fault (inr (inl unowned)) = subst (IsDue g wanted is_new conn) (sym unowned.0) unowned.1
schema_due g wanted is_new conn fault (inr (inr (inl refused))) = subst (IsDue g wanted is_new conn) (sym refused) tt
schema_due g wanted is_new conn fault (inr (inr (inr memory))) = subst (IsDue g wanted is_new conn) (sym memory) tt

-- tables that were found have a count, or get one
known_some : (owner : Owner) (count : Option ℕ) (s : State) (c : Content) → IsSome count → ServesRead owner count s c → ServesKnown (Some owner) count s c
known_some owner None s c some serves = absurd (let e = some in cc)
known_some owner (Some n) s c some serves = (n, refl, serves)

holds_none : (owner : Owner) (count : Option ℕ) (s : State) (c : Content) → count ≡ None → ServesRead owner count s c → HoldsUncounted owner s.now c
holds_none owner None s c none serves = (serves.0.schema, (serves.0.tables, serves.1))
holds_none owner (Some n) s c none serves = absurd cc

had_none : (owner : Owner) (count : Option ℕ) (db : Trees) (c : Content) → count ≡ None → AreReadAs owner count db c → AreUncounted owner db c
had_none owner None db c none are = are
had_none owner (Some n) db c none are = absurd cc

module _ {S : Type 0} (g : Ghosts S) (owner : Owner) (conn read : Held S) (numbers : Numbers) (found : FindsFor g owner conn read numbers) where
  pub counts_some : IsSome numbers.count → CountsFor g owner conn read numbers
  counts_some some = (found.0, had_read owner g numbers.count conn found.0 found.1, known_some owner numbers.count (state g read) found.0 some found.2, found.3)

  pub counts_made : (new : Held S) (now : Numbers) → numbers.count ≡ None → IsMade (Counted owner) (state g read) (state g new) → (now.tried ≡ numbers.tried) × (now.promised ≡ numbers.promised) → now.count ≡ Some first_count
      → CountsFor g owner conn new now
  counts_made new now none made ballots count_is = (
    found.0,
    had_read owner g numbers.count conn found.0 found.1,
    (first_count, count_is, made found.0 (holds_none owner numbers.count (state g read) found.0 none found.2)),
    record { tries = ap number_of ballots.0 ∙ found.3.tries; promises = ap number_of ballots.1 ∙ found.3.promises },
  )

  pub left_counting : numbers.count ≡ None → (db : Trees) → (state g read).may_leave db ⊎ MayBeMade (Counted owner) (state g read) db
      → (state g read).may_leave db ⊎ ((c : Content) × HadFor g owner conn c × AreTablesFor (Some owner) db c)
  left_counting none db (inl may) = inl may
  left_counting none db (inr made) = inr (found.0, had_read owner g numbers.count conn found.0 found.1, (made found.0 (holds_none owner numbers.count (state g read) found.0 none found.2)).0)

  pub to_count : numbers.count ≡ None → IsToCount g owner conn
  to_count none = (found.1.0, (found.0, had_none owner numbers.count (state g conn).committed.trees found.0 none found.1.1))

-- and are prepared
pub prepares_for : {S : Type 0} (g : Ghosts S) (owner : Owner) (is_new : Bool) (old new : Held S) (numbers : Numbers) → CountsFor g owner old new numbers → PreparesFor g owner is_new old new numbers
prepares_for g owner is_new old new numbers f = (f.0, inr f.1, f.2, f.3)

-- what a database that was adopted had
module _ {S : Type 0} (g : Ghosts S) (owner : Owner) (conn : Held S) where
  pub adopts_owned : (new : Held S) (numbers : Numbers) → PreparesFor g owner false conn new numbers → AdoptsFor g owner conn new numbers
  adopts_owned new numbers it = elim it.1 [
    | inl blank ↦ absurd (let e : false ≡ true = blank.1 in cc)
    | inr had ↦ (it.0, inr had, it.2, it.3)
  ]

  had_before : (c : Content) → (HasFacts (state g conn).now.schema → ⊥) → ((state g conn).now.schema ≡ blank_schema → ⊥) → Had g conn c → HadBefore g owner conn c
  had_before c none tables (inl blank) = absurd (tables blank.0)
  had_before c none tables (inr had) = inl (none, had.0, had.1)

  pub adopts_plain : (mid new : Held S) (numbers now : Numbers) → (HasFacts (state g conn).now.schema → ⊥) → ((state g conn).now.schema ≡ blank_schema → ⊥) → MakesReady g conn mid numbers
      → IsMade (Owned owner) (state g mid) (state g new) → (now.tried ≡ numbers.tried) × (now.promised ≡ numbers.promised) → now.count ≡ Some first_count → AdoptsFor g owner conn new now
  adopts_plain mid new numbers now none tables it owned ballots count_is = (
    it.0,
    had_before it.0 none tables it.1,
    (first_count, count_is, owned it.0 (it.2.2.serves.schema, it.2.2.serves.tables)),
    record { tries = ap number_of ballots.0 ∙ it.3.tries; promises = ap number_of ballots.1 ∙ it.3.promises },
  )

  -- what was had for an owner was had
  had_of : (c : Content) → HadFor g owner conn c → Had g conn c
  had_of c (schema, (inl tables), ours) = inr (Fourth, (schema, tables_as (Some owner) (state g conn).committed.trees c tables, ours))
  had_of c (schema, (inr tables), ours) = inr (Third, (schema, tables.0, ours))

  pub left_owned : (db : Trees) → IsLeftAs g owner false conn db → IsLeftBefore g owner conn db
  left_owned db (inl before) = inl before
  left_owned db (inr (inl made)) = absurd (let e : false ≡ true = made.1 in cc)
  left_owned db (inr (inr made)) = inr (made.0, had_of made.0 made.1, inr made.2)

  pub left_plain : (db : Trees) → IsLeftWhole g conn db → IsLeftBefore g owner conn db
  left_plain db (inl before) = inl before
  left_plain db (inr raised) = inr (raised.0, raised.1, inl raised.2)

  pub left_adopting : ((s : S) (db : Trees) → IsTrue (g.view s).is_open → g.recovers s db → db ≡ (g.view s).committed) → (mid : Held S) (numbers : Numbers) → MakesReady g conn mid numbers
      → (db : Trees) → (state g mid).may_leave db ⊎ MayBeMade (Owned owner) (state g mid) db → IsLeftBefore g owner conn db
  left_adopting settled mid numbers it db (inl may) =
      let same : db ≡ (state g mid).now.trees = settled mid.store db it.2.2.serves.is_open may ∙ ap (λ (d : Database). d.trees) (sym it.2.2.serves.settled) in
      inr (it.0, it.1, inl (subst (λ t. AreTablesFor None t it.0) (sym same) it.2.2.serves.tables))
  left_adopting settled mid numbers it db (inr owned) = inr (it.0, it.1, inr (owned it.0 (it.2.2.serves.schema, it.2.2.serves.tables)).0)

  pub owned_due : (fault : OwnerFault) → HasFacts (state g conn).now.schema → IsDue g owner false conn fault → IsDueBefore g owner conn fault
  owned_due Blank facts due = due.0
  owned_due Unowned facts due = absurd (let e : false ≡ true = subst IsSome due.0 facts in cc)
  owned_due (OtherNode other) facts due = due
  owned_due (OtherMembers other) facts due = due
  owned_due (Open Foreign) facts due = inl due
  owned_due (Open Refused) facts due = tt
  owned_due (Open Broken) facts due = tt
  owned_due (Open OutOfMemory) facts due = tt

  pub plain_due : (fault : OpenFault) → (HasFacts (state g conn).now.schema → ⊥) → (fault ≡ Foreign → SeesForeign g conn) → IsDueBefore g owner conn (Open fault)
  plain_due Refused none foreign = tt
  plain_due Broken none foreign = tt
  plain_due OutOfMemory none foreign = tt
  plain_due Foreign none foreign = inr (none, foreign refl)

  pub store_due_before : (fault : OpenFault) → fault ≢ Foreign → IsDueBefore g owner conn (Open fault)
  store_due_before Refused other = tt
  store_due_before Broken other = tt
  store_due_before OutOfMemory other = tt
  store_due_before Foreign other = absurd (other refl)
