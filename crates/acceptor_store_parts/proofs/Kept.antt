-- What a call leaves that read, or failed.
use Rattle.std.proofs.Common.{◌≡◌, ◌⊎◌, inl, inr, ℕ, List, false, Some, None, Option, Ok, Err, Result, IsTrue, OnOk}
use Rattle.std.proofs.Common.{IfOk, IfErr, sym, ap, subst, ◌∙◌}
use Rattle.acceptor_store_parts.proofs.Words.{cases_Bool, Content, Returning, Error, Row, Database, Schema, Compiled}
use Rattle.acceptor_store_parts.proofs.Words.{State, Executes, RunsCommand, shows_rows, ShowsRows, IsUnchanged}
use Rattle.acceptor_store_parts.proofs.Words.{IsRolledBack, IsPlain, never_commits, Owner, AreTablesFor, schema_for}
use Rattle.acceptor_store_parts.proofs.Words.{IsOwnedAt, ServesAt, ServesFor, StillServes, Stays}
use Rattle.sqlite.specs.Listing.{understood}
use Rattle.sqlite.specs.State.{CommitsShowing, ExecutesIn, FailsToQuery, IsNotRun, Shown}
use Rattle.sqlite.specs.Tree.{Trees}

-- as it was, or back at the last commit
abbrev pub Keeps : State → State → Type 0
Keeps old new = IsUnchanged old new ⊎ IsRolledBack old new

not_run : (old new : State) (sql : List ℕ) (params : Row) (e : Error) → IsNotRun old new sql params e → Keeps old new
unfolding IsNotRun
not_run old new sql params e (inl h) = inl h.1
not_run old new sql params e (inr h) = inr h.3

not_done : (old new : State) (sql : List ℕ) (c : Compiled) (params : Row) (e : Error) → RunsCommand old new sql c params (Err e) → Keeps old new
not_done old new sql c params e (inl h) = inl h.1
not_done old new sql c params e (inr h) = inr h.3

pub failed_keeps : (sql : List ℕ) (params : Row) (old new : State) (e : Error) → Executes sql params old new (Err e) → Keeps old new
unfolding ExecutesIn
failed_keeps sql params old new e (inl h) = not_run old new sql params e h
failed_keeps sql params old new e (inr h) = elim (cases_Bool (shows_rows false h.0)) [
  | inl shows ↦ inl (rw shows at h.2).1
  | inr runs ↦ not_done old new sql h.0 _ e (rw runs at h.2)
]

module _ (owner : Option Owner) (old new : State) (c : Content) (was : ServesFor owner old c) where
  pub still_serves : Keeps old new → IsTrue new.is_open → ServesFor owner new c
  still_serves (inl h) opened = record {
    is_open = opened;
    autocommit = h.0.mode ∙ was.autocommit;
    settled = h.0.now_is ∙ was.settled ∙ sym h.0.committed_is;
    schema = ap (λ (d : Database). d.schema) h.0.now_is ∙ was.schema;
    tables = subst (λ (d : Database). AreTablesFor owner d.trees c) (sym h.0.now_is) was.tables;
  }
  still_serves (inr h) opened =
      let now = (h.undone opened).0 ∙ sym was.settled in
      record {
        is_open = opened;
        autocommit = h.autocommit;
        settled = (h.undone opened).0 ∙ sym (h.undone opened).1;
        schema = ap (λ (d : Database). d.schema) now ∙ was.schema;
        tables = subst (λ (d : Database). AreTablesFor owner d.trees c) (sym now) was.tables;
      }

-- and at the same count
module _ (owner : Option Owner) (n : ℕ) (old new : State) (c : Content) (was : ServesAt owner n old c) where
  same_now : Keeps old new → IsTrue new.is_open → new.now ≡ old.now
  same_now (inl h) opened = h.0.now_is
  same_now (inr h) opened = (h.undone opened).0 ∙ sym was.serves.settled

  pub still_at : Keeps old new → IsTrue new.is_open → ServesAt owner n new c
  still_at keeps opened = record { serves = still_serves owner old new c was.serves keeps opened; counted = subst (λ (d : Database). IsOwnedAt owner n d.trees) (sym (same_now keeps opened)) was.counted }

-- what a statement means of the tables of each owner
abbrev pub AlwaysPlain : List ℕ → Type 0
AlwaysPlain sql = (owner : Option Owner) → IsPlain (understood (schema_for owner) sql)

module _ (sql : List ℕ) (params : Row) (old new : State) (schema : Schema) (has : old.now.schema ≡ schema) (plain : IsPlain (understood schema sql)) where
  fails_keeps : (e : Error) → FailsToQuery sql params old new e → Keeps old new
  unfolding FailsToQuery
  fails_keeps e (inl h) = not_run old new sql params e h
  fails_keeps e (inr h) =
      let known = sym h.1.is ∙ ap (λ s. understood s sql) has in
      let bare = subst IsPlain (sym known) plain in
      inl (rw bare.0 at h.2).3

shown_open : (sql : List ℕ) (params : Row) (old new : State) (rows : List Row) (c : Compiled) (returning : Option Returning) → ShowsRows old new sql c params rows returning → IsTrue old.is_open
shown_open sql params old new rows c None h = h.3.0.was_open
shown_open sql params old new rows c (Some what) h = h.1.shown.was_open

pub all_ok : (sql : List ℕ) (params : Row) (old new : State) → AlwaysPlain sql → (rows : List Row) → Shown sql params old new rows → Stays old new
unfolding Shown
all_ok sql params old new plain rows h = (
  shown_open sql _ old new rows h.0 h.0.returning h.2,
  λ owner n c was.
      let known = sym h.1.is ∙ ap (λ s. understood s sql) was.serves.schema in
      let bare = subst IsPlain (sym known) (plain owner) in
      let same = (rw bare.0 at h.2).3 in
      still_at owner n old new c was (inl same) same.0.is_open,
)

pub all_err : (sql : List ℕ) (params : Row) (old new : State) → AlwaysPlain sql → (e : Error) → FailsToQuery sql params old new e → IsTrue new.is_open → StillServes old new
all_err sql params old new plain e h opened owner n c was = still_at owner n old new c was (fails_keeps sql params old new (schema_for owner) was.serves.schema (plain owner) e h) opened

pub all_result : (sql : List ℕ) (params : Row) (old new : State) → AlwaysPlain sql → {X : Type 0} (r : Result X Error) (rows : X → List Row) → IfOk r (λ x. Shown sql params old new (rows x)) → OnOk r (Stays old new)
all_result sql params old new plain (Ok x) rows h = all_ok sql params old new plain (rows x) h
all_result sql params old new plain (Err e) rows h = tt

pub all_failed : (sql : List ℕ) (params : Row) (old new : State) → AlwaysPlain sql → {X : Type 0} (r : Result X Error) (rows : X → List Row) → IfOk r (λ x. Shown sql params old new (rows x)) → IfErr r (FailsToQuery sql params old new)
    → IsTrue new.is_open → StillServes old new
all_failed sql params old new plain (Ok x) rows h g opened = (all_ok sql params old new plain (rows x) h).1
all_failed sql params old new plain (Err e) rows h g opened = all_err sql params old new plain e g opened

-- what is read is no commit
pub writes_none : (sql : List ℕ) (params : Row) (old : State) (schema : Schema) → old.now.schema ≡ schema → IsPlain (understood schema sql) → (db : Trees) → CommitsShowing sql params old db → ⊥
writes_none sql params old schema has plain db = never_commits sql params old db (subst (λ s. IsPlain (understood s sql)) (sym has) plain)

-- what was read changed nothing
pub all_same : (sql : List ℕ) (params : Row) (old new : State) (schema : Schema) → old.now.schema ≡ schema → IsPlain (understood schema sql) → {X : Type 0} (r : Result X Error) (rows : X → List Row) → IfOk r (λ x. Shown sql params old new (rows x))
    → OnOk r (IsUnchanged old new)
unfolding Shown
all_same sql params old new schema has plain (Err e) rows h = tt
all_same sql params old new schema has plain (Ok x) rows h =
    let known = sym h.1.is ∙ ap (λ s. understood s sql) has in
    let bare = subst IsPlain (sym known) plain in
    (rw bare.0 at h.2).3
