-- What is known of a connection that was opened anew.
use Rattle.std.proofs.Common.{◌≡◌, ◌⊎◌, inl, inr, ℕ, Bool, true, ◌==◌, if◌then◌else◌, List, [], ◌∷◌, length, map}
use Rattle.std.proofs.Common.{Some, None, Option, Ok, Err, Result, IfOk, IfSome, IsSomeAnd, OnOk, IsTrue, refl, sym, ap, subst}
use Rattle.std.proofs.Common.{subst₂, ◌∙◌, arith}
use Rattle.acceptor_store.proofs.Words.{∥∥₁_map, ∥∥₁_elim, ∥∥₁_prop, Cast, number_of, Content, AreRowsFrom, AreValues}
use Rattle.acceptor_store.proofs.Words.{greatest, Holds, HoldsEither, AddsNothing}
use Rattle.acceptor_store.proofs.Words.{survives_then, Ghosts}
use Rattle.acceptor_store.proofs.Words.{Trees, Database, IsDatabase, State, HasCleanDisk, Survives, Opens, IsUnchanged}
use Rattle.acceptor_store.proofs.Words.{IsOwnedAt, IsUnownedVersion, ServesKnown, StaysKnown, Fourth}
use Rattle.acceptor_store.proofs.Words.{Version, First, Second, Third, AreByRowid, AreShaped, Rereads, Held, state}
use Rattle.acceptor_store.proofs.Words.{AllByRecursion, HasFacts, IsForeignSchema, Numbers, IsReread, Owner, schema_of}
use Rattle.acceptor_store.proofs.Words.{blank_schema, AreTablesOf, HasLearned, KeepsLearned, IsNumber, IsCast}
use Rattle.acceptor_store.proofs.Words.{IsLearned, vote_row, learned_row, AreTablesFor, schema_for, ServesFor, ServesAs}
use Rattle.acceptor_store.proofs.Words.{StillServes, DoesNotServe, one_content, AreNumbersOf, Linked, MayFind}
use Rattle.acceptor_store.proofs.Words.{MayFindIn, IsHonest, is_clean_in, held_of, IsLinked, IsServing, Stands}
use Rattle.acceptor_store.proofs.Words.{IsTested, CannotBeRead, Tells, Leaves, Reopens, Examines, Had}
use Rattle.acceptor_store.proofs.Words.{SeesForeign, HasNumbers, StaysAs, no_doubt, clean_of}
use Rattle.acceptor_store.proofs.Words.{IsCount, OwnedAt, ShowsCount, count_bytes, fact_shown, facts_of}
use Rattle.acceptor_store_parts.proofs.Callers.{count_bytes_once}
use Rattle.sqlite.specs.Order.{Row}
use Rattle.sqlite_schema.specs.declared.schema.Schema.{Schema}
use Rattle.sqlite_schema.specs.Names.{same_name}
use Rattle.acceptor_store.specs.Linked.{FindsContent as Found}
use Rattle.acceptor_store.proofs.Calls.{held_there}
use Rattle.acceptor_store.proofs.Found.{found_is, found_it}

module _ {S : Type 0} (g : Ghosts S) (settled : (s : S) (db : Trees) → IsTrue (g.view s).is_open → g.recovers s db → db ≡ (g.view s).committed)
    (stays : (s : S) → IsTrue (g.view s).is_open → g.recovers s (g.view s).committed) (owner : Option Owner) (old new : Held S) (numbers : Numbers) where
  pub tells : (state g old).now.schema ≡ schema_for owner → HasCleanDisk (state g new) → ((c : Content) → ServesFor owner (state g old) c → AreNumbersOf numbers c)
      → StaysKnown owner numbers.count (state g old) (state g new) → Survives (state g old) (state g new) (λ _. CannotBeRead owner (state g old)) → Tells g owner old new numbers
  tells schema clean value still survives = (
    schema,
    λ c was.
        let known = still c was in
        let now = known.2.serves in
        let left : (db : Trees) → (state g new).may_leave db → db ≡ (state g old).committed.trees =
        λ db may. elim (survives.crash clean db may) [ inl there ↦ settled old.store db was.is_open there | inr none ↦ absurd (none.1 c was) ] in
        let stand : Stands g owner new = λ db may. ∣ (c, subst (λ t. AreTablesFor owner t c) (ap (λ (d : Database). d.trees) now.settled ∙ sym (settled new.store db now.is_open may)) now.tables) ∣₁ in
        (known, value c was, stand, (∣ found_it g settled stays owner new c now ∣₁, found_is g settled stays owner new c now), left),
  )

-- reads of the tables that were tested commit nothing
pub tests_leave : (owner : Option Owner) (old mid new : State) → old.now.schema ≡ schema_for owner → (HasCleanDisk mid → (c : Content) → ServesFor owner old c → ServesFor owner mid c) → Survives old mid (λ _. old.now.schema ≡ schema_for owner → ⊥)
    → Survives mid new (λ _. DoesNotServe mid) → Survives old new (λ _. CannotBeRead owner old)
tests_leave owner old mid new schema still one two =
    survives_then old mid new _ _ _ (λ _ db other. absurd (other schema)) (λ clean db none. (schema, λ x was. none x (owner, still (omega (arith, two.clean, clean)) x was))) one two

module _ {S : Type 0} (g : Ghosts S) (owner : Option Owner) (old mid new : Held S) (opens : Opens (state g mid)) (found : ∥ (state g old).may_leave (state g mid).committed.trees ∥₁) where
  serves_mid : (state g mid).now.schema ≡ schema_for owner → (c : Content) → AreTablesFor owner (state g mid).committed.trees c → ServesFor owner (state g mid) c
  serves_mid schema c tables = record {
    is_open = opens.is_open;
    autocommit = opens.autocommit;
    settled = opens.clean;
    schema = schema;
    tables = subst (λ (d : Database). AreTablesFor owner d.trees c) (sym opens.clean) tables;
  }

  -- what is there is one content
  held : Stands g owner old → (c : Content) × AreTablesFor owner (state g mid).committed.trees c
  held before = ∥∥₁_elim found (one_content owner (state g mid).committed.trees) (λ may. ∥∥₁_elim (before _ may) (one_content owner (state g mid).committed.trees) (λ it. it))

  module _ (numbers : Numbers) (told : Tells g owner mid new numbers) where
    tested : (before : Stands g owner old) → IsTested g owner mid new numbers (held before).0
    tested before = told.1 (held before).0 (serves_mid told.0 (held before).0 (held before).1)

    pub reopens : Reopens g owner old new numbers
    reopens = record { knows = λ before. ((held before).0, (tested before).0, (tested before).1); holds = λ before. (tested before).3 }

  module _ (settled : (s : S) (db : Trees) → IsTrue (g.view s).is_open → g.recovers s db → db ≡ (g.view s).committed) (clean : HasCleanDisk (state g old)) (now : HasCleanDisk (state g new))
      (survives : Survives (state g mid) (state g new) (λ _. CannotBeRead owner (state g mid))) where
    -- a crash leaves what was found, whether it was read or not
    there : Stands g owner old → (db : Trees) → (state g new).may_leave db → db ≡ (state g mid).committed.trees
    there before db may = elim (survives.crash now db may) [
      | inl same ↦ settled mid.store db opens.is_open same
      | inr unread ↦ absurd (unread.1 (held before).0 (serves_mid unread.0 (held before).0 (held before).1))
    ]

    pub leaves : Leaves g owner old new
    leaves = record {
      was_clean = clean;
      stands = λ before db may. ∣ ((held before).0, subst (λ t. AreTablesFor owner t (held before).0) (sym (there before db may)) (held before).1) ∣₁;
      adds_nothing = λ before d known. ∥∥₁_elim known ∥∥₁_prop (λ it. ∥∥₁_map found (λ may. (it.0, subst (state g old).may_leave (sym (there before it.0 it.1)) may, it.2)));
    }

-- of two contents that it may be it is one
pub one_of : {S : Type 0} (g : Ghosts S) (owner : Option Owner) (old new : Held S) (numbers : Numbers) → Leaves g owner old new → Reopens g owner old new numbers → Stands g owner old → (a b : Content)
    → HoldsEither (MayFindIn g owner old) a b → Holds (MayFindIn g owner new) a ⊎ Holds (MayFindIn g owner new) b
one_of g owner old new numbers left it before a b either =
    let here = it.holds before in
    elim (either (it.knows before).0 (left.adds_nothing before _ (∥∥₁_elim here.0 ∥∥₁_prop (λ x. x)))) [
      | inl is ↦ inl (subst (Holds (MayFindIn g owner new)) is here)
      | inr is ↦ inr (subst (Holds (MayFindIn g owner new)) is here)
    ]

-- records that had this connection, and what was known of it
pub over_conn : {S : Type 0} {view self : Linked S} {old : Held S} → view ≡ self → (conn was : Option (Held S)) → view.held ≡ held_of conn was → conn ≡ Some old → (self.held ≡ Some old) × (self.owner ≡ view.owner)
over_conn {S} same conn was held some = (sym (ap (λ (r : Linked S). r.held) same) ∙ held ∙ held_there conn was _ some, sym (ap (λ (r : Linked S). r.owner) same))

pub serving_before : {S : Type 0} (g : Ghosts S) (owner : Option Owner) (conn was : Option (Held S)) (is_up : Bool) (numbers : Numbers) {old : Held S} → conn ≡ Some old → IsLinked g owner conn was is_up numbers → IsServing g owner old is_up numbers
serving_before g owner conn was is_up numbers some linked = subst (λ h. IsLinked g owner h was is_up numbers) some linked

-- the records after a reopen, where they were over this connection
module _ {S : Type 0} (g : Ghosts S) (self : Linked S) (old new : Held S) (owner : Option Owner) (at : self.held ≡ Some old) (own : self.owner ≡ owner) (left : HasCleanDisk (state g new) → Leaves g owner old new) where
  pub reopen_honest : IsTrue (state g new).is_clean → IsHonest g self
  reopen_honest h = subst (λ held. IsTrue (is_clean_in g held)) (sym at) (clean_of _ (left (no_doubt _ h)).was_clean)

  module _ (is_up : Bool) (numbered : Numbers) (linked : IsServing g owner old is_up numbered) where
    before : HasCleanDisk (state g new) → Stands g owner old
    before clean = (linked (left clean).was_clean).0

    pub reopen_kept : IsTrue (state g new).is_clean → AddsNothing (MayFind g self.owner self.held) (MayFindIn g owner new)
    reopen_kept h =
        let clean : HasCleanDisk (state g new) = no_doubt _ h in
        subst₂ (λ o held. AddsNothing (MayFind g o held) (MayFindIn g owner new)) (sym own) (sym at) ((left clean).adds_nothing (before clean))

    module _ (found : Option Numbers) (numbers : Numbers) (read : found ≡ Some numbers) (it : HasCleanDisk (state g new) → IfSome found (Reopens g owner old new)) where
      reopens_new : HasCleanDisk (state g new) → Reopens g owner old new numbers
      reopens_new clean = subst (λ o. IfSome o (Reopens g owner old new)) read (it clean)

      pub reopen_ok : IsTrue (state g new).is_clean → (a b : Content) → HoldsEither (MayFind g self.owner self.held) a b
          → Holds (MayFindIn g owner new) a ⊎ Holds (MayFindIn g owner new) b
      reopen_ok h a b either =
          let clean : HasCleanDisk (state g new) = no_doubt _ h in
          one_of g owner old new numbers (left clean) (reopens_new clean) (before clean) a b (subst₂ (λ o held. HoldsEither (MayFind g o held) a b) own at either)

-- a read that changed nothing
pub stays_as : (version : Version) (old new : State) → IsUnchanged old new → StaysAs version old new
stays_as version old new same = (
  same.0.now_is,
  λ c was. record {
    is_open = same.0.is_open;
    autocommit = same.0.mode ∙ was.autocommit;
    settled = same.0.now_is ∙ was.settled ∙ sym same.0.committed_is;
    schema = ap (λ (d : Database). d.schema) same.0.now_is ∙ was.schema;
    tables = subst (λ (d : Database). AreTablesOf version d.trees c) (sym same.0.now_is) was.tables;
  },
)

-- tables that hold a content serve it
pub serves_tables : {S : Type 0} (g : Ghosts S) (version : Version) (old : Held S) → (state g old).now.schema ≡ schema_of version → IsReread version (state g old) → (c : Content) → AreTablesOf version (state g old).now.trees c → ServesAs version (state g old) c
serves_tables g version old schema it c tables = record { is_open = it.opens.is_open; autocommit = it.opens.autocommit; settled = it.opens.clean; schema = schema; tables = tables }

pub by_rowid : {S : Type 0} (g : Ghosts S) (version : Version) (old : Held S) → (state g old).now.schema ≡ schema_of version → IsReread version (state g old) → AreByRowid version (state g old)
by_rowid g version old schema it = record { schema = schema; sound = (it.live it.opens.is_open).0; shaped = it.shaped }

pub still_by_rowid : (version : Version) (old new : State) → new.now ≡ old.now → AreByRowid version old → AreByRowid version new
still_by_rowid version old new same it = record {
  schema = ap (λ (d : Database). d.schema) same ∙ it.schema;
  sound = subst IsDatabase (sym same) it.sound;
  shaped = subst (λ (d : Database). AreShaped version d.trees) (sym same) it.shaped;
}

all_values : (rows : List (ℕ × List ℕ)) → AllByRecursion IsLearned rows → AreValues rows
all_values [] all = tt
all_values (row ∷ rows) all = (all.0.1, all_values rows all.1)

-- what a read that changed nothing serves still
pub unchanged_serves : (old new : State) → IsUnchanged old new → StillServes old new
unchanged_serves old new same = λ owner n c was. record {
  serves = record {
    is_open = same.0.is_open;
    autocommit = same.0.mode ∙ was.serves.autocommit;
    settled = same.0.now_is ∙ was.serves.settled ∙ sym same.0.committed_is;
    schema = ap (λ (d : Database). d.schema) same.0.now_is ∙ was.serves.schema;
    tables = subst (λ (d : Database). AreTablesFor owner d.trees c) (sym same.0.now_is) was.serves.tables;
  };
  counted = subst (λ (d : Database). IsOwnedAt owner n d.trees) (sym same.0.now_is) was.counted;
}

-- the count that was read is that of what is served
pub stays_known : (old new : State) (owner : Owner) (rows : List Row) (count : Option ℕ) → IsUnchanged old new → ((o : Owner) (n : ℕ) → OwnedAt o n old.now.trees → rows ≡ map fact_shown (facts_of o n))
    → IsSomeAnd count (λ n. IsCount n × ShowsCount rows owner n) → StaysKnown (Some owner) count old new
stays_known old new owner rows None same value is = absurd is
stays_known old new owner rows (Some n) same value is = λ c was.
    let m = was.tables.owned.0 in
    let at = was.tables.owned.1 in
    let shown : map fact_shown (facts_of owner m) ≡ map fact_shown (facts_of owner n) = sym (value owner m at) ∙ is.1 in
    let bytes : count_bytes m ≡ count_bytes n = cc in
    (m, ap Some (sym (count_bytes_once m n at.0 is.0 bytes)), unchanged_serves old new same (Some owner) m c (record { serves = was; counted = at }))

-- and a connection that was opened over its store is as one that was
pub still_reread : (version : Version) (old new : State) → IsUnchanged old new → (AreShaped Third old.now.trees → AreShaped version old.now.trees) → IsReread Third old → IsReread version new
still_reread version old new same shapes it = record {
  opens = record {
    is_open = same.0.is_open;
    clean = same.0.now_is ∙ it.opens.clean ∙ sym same.0.committed_is;
    autocommit = same.0.mode ∙ it.opens.autocommit;
    unmarked = same.2 ∙ it.opens.unmarked;
    uncounted = (same.1.changes ∙ it.opens.uncounted.0, same.1.last_rowid ∙ it.opens.uncounted.1);
  };
  live = λ opened. let live = it.live it.opens.is_open in (subst IsDatabase (sym same.0.now_is) live.0, subst IsDatabase (sym same.0.committed_is) live.1);
  shaped = subst (λ (d : Database). AreShaped version d.trees) (sym same.0.now_is) (shapes it.shaped);
}

-- the table of learned values, in each version that has one
learned_there : (version : Version) → KeepsLearned version → (db : Trees) (c : Content) → db 2 ≡ map learned_row c.learned → HasLearned version db c
learned_there First keeps db c h = absurd keeps
learned_there Second keeps db c h = h
learned_there Third keeps db c h = h
learned_there Fourth keeps db c h = h

pub has_learned : (version : Version) → (version ≡ First → ⊥) → KeepsLearned version
has_learned First other = absurd (other refl)
has_learned Second other = tt
has_learned Third other = tt
has_learned Fourth other = tt

pub learned_held : (version : Version) → KeepsLearned version → (old : State) {X E : Type 0} (r : Result X E) (items : X → List (ℕ × List ℕ))
    → IfOk r (λ x. (v : Version) → KeepsLearned v → AreByRowid v old → old.now.trees 2 ≡ map learned_row (items x))
    → IfOk r (λ x. AreByRowid version old → (c : Content) → c.learned ≡ items x → HasLearned version old.now.trees c)
learned_held version keeps old (Err e) items h = tt
learned_held version keeps old (Ok x) items h = λ by c is. learned_there version keeps old.now.trees c (h version keeps by ∙ ap (map learned_row) (sym is))

-- what a connection whose tables were all read serves
module _ {S : Type 0} (g : Ghosts S) (version : Version) (old mid late new : Held S) (tried row : Option ℕ) (numbers : Numbers) (votes : List (ℕ × Cast)) (learned : List (ℕ × List ℕ)) where
  pub examines : (state g old).now.schema ≡ schema_of version → IsNumber (number_of tried) × IsNumber (number_of row) → AllByRecursion IsCast votes × AreRowsFrom 1 votes → AllByRecursion IsLearned learned × AreRowsFrom 1 learned
      → (AreByRowid version (state g old) → HasNumbers version (state g old).now.trees (number_of tried) (number_of row)) → StaysAs version (state g old) (state g mid)
      → (AreByRowid version (state g mid) → (state g mid).now.trees 1 ≡ map vote_row votes) → StaysAs version (state g mid) (state g late)
      → (AreByRowid version (state g late) → (c : Content) → c.learned ≡ learned → HasLearned version (state g late).now.trees c) → StaysAs version (state g late) (state g new)
      → (number_of numbers.tried ≡ number_of tried) × (number_of numbers.promised ≡ greatest (number_of row) votes) → Examines g version old new numbers
  examines schema fits casts values first one second two third three most it =
      let c : Content = record { tried = number_of tried; row = number_of row; votes = votes; learned = learned } in
      let by = by_rowid g version old schema it in
      let by_mid = still_by_rowid version (state g old) (state g mid) one.0 by in
      let by_late = still_by_rowid version (state g mid) (state g late) two.0 by_mid in
      let tables : AreTablesOf version (state g old).now.trees c = record {
        numbers = first by;
        votes_are = ap (λ (d : Database). d.trees 1) (sym one.0) ∙ second by_mid;
        learned_are = subst (λ (d : Database). HasLearned version d.trees c) (two.0 ∙ one.0) (third by_late c refl);
        sound = (casts.1, values.1, all_values learned values.0);
      } in (
        c,
        tables,
        record { tried = fits.0; row = fits.1; casts = casts.0; learned = values.0 },
        three.1 c (two.1 c (one.1 c (serves_tables g version old schema it c tables))),
        record { tries = most.0; promises = most.1 },
      )

-- what an older connection had, read over its store
pub finds : {S : Type 0} (g : Ghosts S) (version : Version) (conn again new : Held S) (numbers : Numbers) → (state g conn).now.schema ≡ schema_of version → Rereads version (state g conn) (state g again) → Examines g version again new numbers
    → Found g version conn new numbers
finds g version conn again new numbers schema re ex =
    let e = ex re.0 in
    (e.0, (schema, subst (λ t. AreTablesOf version t e.0) re.1 e.1, e.2), e.3, e.4)

not_blank : (version : Version) → schema_of version ≡ blank_schema → ⊥
not_blank First e = absurd (let t : 2 ≡ 0 = ap (λ (s : Schema). length s.tables) e in cc)
not_blank Second e = absurd (let t : 3 ≡ 0 = ap (λ (s : Schema). length s.tables) e in cc)
not_blank Third e = absurd (let t : 4 ≡ 0 = ap (λ (s : Schema). length s.tables) e in cc)
not_blank Fourth e = absurd (let t : 4 ≡ 0 = ap (λ (s : Schema). length s.tables) e in cc)

-- a schema tells its version, by how many tables it has; those of versions 3 and 4 have the same
abbrev with_tables : ℕ → Version
with_tables n = if n == 2 then First else (if n == 3 then Second else Third)

told_by : (version : Version) → (version ≡ Fourth → ⊥) → with_tables (length (schema_of version).tables) ≡ version
told_by First other = refl
told_by Second other = refl
told_by Third other = refl
told_by Fourth other = absurd (other refl)

pub one_version : (v w : Version) → (v ≡ Fourth → ⊥) → (w ≡ Fourth → ⊥) → schema_of v ≡ schema_of w → v ≡ w
one_version v w first second e = sym (told_by v first) ∙ ap (λ (s : Schema). with_tables (length s.tables)) e ∙ told_by w second

-- a schema of version 3 has a table of facts
pub third_has_facts : HasFacts (schema_of Third)
unfolding same_name
third_has_facts = refl

pub unowned_version : (s : Schema) (version : Version) → s ≡ schema_of version → (IsForeignSchema s → ⊥) → IsUnownedVersion version
unowned_version s First is ours = tt
unowned_version s Second is ours = tt
unowned_version s Third is ours = ours (inl (subst HasFacts (sym is) third_has_facts))
unowned_version s Fourth is ours = ours (inl (subst HasFacts (sym is) third_has_facts))

not_fourth : (version : Version) → IsUnownedVersion version → version ≡ Fourth → ⊥
not_fourth version unowned is = subst IsUnownedVersion is unowned

pub always : {T E A : Type 0} (r : Result T E) → A → OnOk r A
always (Ok x) a = a
always (Err e) a = tt

pub own : {S : Type 0} (g : Ghosts S) (conn : Held S) (c : Content) → (IsForeignSchema (state g conn).now.schema → ⊥) → Had g conn c → SeesForeign g conn → ⊥
own g conn c ours had (inl schema) = ours schema
own g conn c ours (inl blank) (inr rows) = not_blank rows.0 (sym rows.1 ∙ blank.0)
own g conn c ours (inr there) (inr rows) =
    let s = (state g conn).now.schema in
    let same = one_version there.0 rows.0 (not_fourth there.0 (unowned_version s there.0 there.1.0 ours)) (not_fourth rows.0 (unowned_version s rows.0 rows.1 ours)) (sym there.1.0 ∙ rows.1) in
    rows.2 c (subst (λ v. AreTablesOf v (state g conn).committed.trees c) same there.1.1) there.1.2

-- the records over tables that serve a content
module _ {S : Type 0} (g : Ghosts S) (settled : (s : S) (db : Trees) → IsTrue (g.view s).is_open → g.recovers s db → db ≡ (g.view s).committed)
    (stays : (s : S) → IsTrue (g.view s).is_open → g.recovers s (g.view s).committed) (owner : Option Owner) (Was : Content → Type 0) (new : Held S) (numbers : Numbers)
    (it : HasCleanDisk (state g new) → (c : Content) × Was c × ServesKnown owner numbers.count (state g new) c × AreNumbersOf numbers c) where
  pub opened_linked : IsServing g owner new true numbers
  opened_linked clean =
      let now = it clean in (
        λ db may. ∣ (now.0, subst (λ t. AreTablesFor owner t now.0) (ap (λ (d : Database). d.trees) now.2.2.serves.settled ∙ sym (settled new.store db now.2.2.serves.is_open may)) now.2.2.serves.tables) ∣₁,
        λ up. (now.0, now.2, now.3),
      )

  -- the records over it are clean where it is
  pub over_clean : (r : Linked S) → r.held ≡ Some new → IsHonest g r → HasCleanDisk (state g new)
  over_clean r held h = no_doubt _ (subst (λ x. IsTrue (is_clean_in g x)) held h)

  pub opened_holds : (r : Linked S) → r.held ≡ Some new → r.owner ≡ owner → IsHonest g r → (c : Content) × Was c × Holds (MayFind g r.owner r.held) c
  opened_holds r held own h =
      let now = it (over_clean r held h) in (
        now.0,
        now.1,
        subst₂ (λ o x. Holds (MayFind g o x) now.0) (sym own) (sym held) (∣ found_it g settled stays owner new now.0 now.2.2.serves ∣₁, found_is g settled stays owner new now.0 now.2.2.serves),
      )
