-- What the writes of the records make of the tables.
use Rattle.std.proofs.Common.{◌≡◌, ◌≢◌, inl, inr, ℕ, ℤ, pos, List, [], ◌∷◌, ◌++◌, ◌/◌, length, map, filter, nat_lt}
use Rattle.std.proofs.Common.{false, Some, None, Option, Ok, refl, ap, subst, ◌∙◌, lit<}
use Rattle.acceptor_store_parts.proofs.Words.{Cast, IsPlace, IsValue, rows_put, values_put, Content, IsSound}
use Rattle.acceptor_store_parts.proofs.Words.{after_write}
use Rattle.acceptor_store_parts.proofs.Words.{Promises, Votes, Learns, Replace, Refusal, cast_row, without_all}
use Rattle.acceptor_store_parts.proofs.Words.{with_rowid, AreConflicts, ids_of, InsertOr, Values, Int, Mode, Row}
use Rattle.acceptor_store_parts.proofs.Words.{put_row, Database, value_rows, Term, Tally, Does, OnRows, stamped, Counts}
use Rattle.acceptor_store_parts.proofs.Words.{mended, rowids_for, Written, Task, Judged, Upserts, TriesEach, nothing}
use Rattle.acceptor_store_parts.proofs.Words.{count_of, Owner, ballot_table, vote_table, learned_table, fact_table}
use Rattle.acceptor_store_parts.proofs.Words.{number_row, vote_row, learned_row, fact_row, vote_shown, learned_shown}
use Rattle.acceptor_store_parts.proofs.Words.{fact_shown, three, AreTablesFor, IsCount, IsOwnedAt, IsOwnedBy, NamesOwner}
use Rattle.acceptor_store_parts.proofs.Words.{OwnedAt, OwnedBy, count_bytes, facts_of, number_for, owner_bytes}
use Rattle.acceptor_store_parts.proofs.Words.{schema_for}
use Rattle.acceptor.specs.Content.Write.{Tries as Tried}
use Rattle.sqlite_rules.specs.declared.error.Rowids.TheVariants.{Chosen}
use Rattle.sqlite.specs.Table.{Table}
use Rattle.sqlite.specs.Tree.{Trees}
use Rattle.sqlite.specs.Rows.{Tries}
use Rattle.acceptor_store_parts.proofs.Meaning.{number_terms, vote_terms, learned_terms}
use Rattle.acceptor_store_parts.proofs.Rising.{IsRisingBy}
use Rattle.acceptor_store_parts.proofs.Rows.{replaced}
use Rattle.acceptor_store_parts.proofs.Places.{rising, placed_is}
use Rattle.acceptor_store_parts.proofs.Numbers.{three_rise}
use Rattle.acceptor_store_parts.proofs.Puts.{went, same_value, cast_int, cast_null, clears}

module _ (task : Task) (new : Row) (db : Trees) (w : Written) where
  -- a row that is written was judged well
  judged : (verdict : Option Refusal) → Judged task Replace [] new db verdict (Ok w) → Upserts task Replace new db [] (Ok w)
  judged None h = h
  judged (Some why) h = absurd (let e = h in cc)

  tried : Tries task Replace [] new db (Ok w) → Upserts task Replace new db [] (Ok w)
  tried (inl h) = absurd (let e = h.1 in cc)
  tried (inr h) = judged h.0 h.2

pub cast_number : (id n : ℕ) → cast_row ballot_table (number_row id n) ≡ number_row id n
cast_number id n = rw (cast_int, cast_int, cast_null)

-- one row was put into a table, in place of those that it conflicts with
pub record PutsRow (table : Table) (db next : Trees) (row : Row) : Type 0 where
  pub found : List Row
  pub conflict : AreConflicts None [] table (db table.tree) row found
  pub rows : next table.tree ≡ put_row row (without_all (db table.tree) (ids_of found))
  pub others : (t : ℕ) → t ≢ table.tree → next t ≡ db t

-- no rowid is counted
uncounted_keeps : (task : Task) (db next : Trees) (counter : Option Row) (top : ℤ) → task.table.is_counted ≡ false → Counts task db counter top (Ok next) → next ≡ db
uncounted_keeps task db next counter top none h = same_value (rw none at h)

-- INSERT OR REPLACE of one row, whose first column is its rowid
module _ (owner : Option Owner) (limit : Option ℕ) (mode : Mode) (db : Trees) (tally : Tally) (after : Database) (table : Table) (params : Row) (at : ℕ) (terms : List Term) (width : ℕ) (row : Row)
    (one_row : value_rows (stamped table params) width (length terms / width) terms ≡ row ∷ []) (keyed : (n : ℤ) → with_rowid (rowids_for table n) (db table.tree) (cast_row table (mended Replace table row)) ≡ row) (uncounted : table.is_counted ≡ false)
    (cast_is : cast_row table row ≡ row) where
  abbrev it : Task
  it = record { limit = limit; keys = mode.keys; schema = schema_for owner; table = table; params = params }

  pub put_one : OnRows it mode None (InsertOr at Replace (Values terms width) []) db (Ok (tally, after)) → (after.schema ≡ schema_for owner) × PutsRow table db after.trees row
  put_one h =
      let done = went h in
      let concl = went (went done.2).2 in
      let now : after ≡ record { schema = schema_for owner; trees = done.0.trees } = ap (λ (x : Tally × Database). x.1) (same_value concl.2) in
      let sourced = went done.1 in
      let countered = went sourced.2 in
      let tries = went countered.2 in
      let counts = went tries.2 in
      let each = subst (λ rs. TriesEach it Replace [] rs (count_of countered.0) (nothing db) (Ok tries.0)) (sourced.1.1 ∙ one_row) tries.1 in
      let one = went each in
      let put = subst (λ n. Upserts it Replace n db [] (Ok one.0)) (keyed (count_of countered.0)) (tried it _ db one.0 one.1) in
      let set = clears owner mode.keys table params limit row db put.0 one.0 put.2 in
      let trees : done.0.trees ≡ one.0.trees =
      ap (λ (x : Written). x.trees) (same_value counts.2) ∙ (uncounted_keeps it tries.0.0.trees counts.0 countered.0 tries.0.1 uncounted counts.1 ∙ ap (λ (x : Written × ℤ). x.0.trees) (same_value one.2)) in
      let all : after.trees ≡ one.0.trees = ap (λ (d : Database). d.trees) now ∙ trees in (
        ap (λ (d : Database). d.schema) now,
        record {
          found = put.0;
          conflict = put.1;
          rows = ap (λ (x : Trees). x table.tree) all ∙ (set.0 ∙ ap (λ r. put_row r (without_all (db table.tree) (ids_of put.0))) cast_is);
          others = λ t other. ap (λ (x : Trees). x t) all ∙ set.1 t other;
        },
      )

cast_vote : (v : ℕ × Cast) → cast_row vote_table (vote_row v) ≡ vote_row v
cast_vote v = rw (cast_int, cast_int, cast_null)

cast_learned : (v : ℕ × List ℕ) → cast_row learned_table (learned_row v) ≡ learned_row v
cast_learned v = rw (cast_int, cast_null)

cast_fact : (v : ℕ × List ℕ) → cast_row fact_table (fact_row v) ≡ fact_row v
cast_fact v = rw (cast_int, cast_null)

-- what a text that puts one row into this table makes of a database
abbrev pub Puts : Option Owner → Option ℕ → Mode → Trees → List ℕ → Tally → Database → Row → ℕ → List Term → ℕ → Table → Row → Type 0
Puts owner limit mode db text tally after params at terms width table row =
    Does limit mode params (record { schema = schema_for owner; trees = db }) text None (InsertOr at Replace (Values terms width) []) (Ok (tally, after)) → (after.schema ≡ schema_for owner) × PutsRow table db after.trees row

module _ (limit : Option ℕ) (mode : Mode) (db : Trees) (text : List ℕ) (tally : Tally) (after : Database) where
  pub put_number : (owner : Option Owner) (id b : ℕ) → Puts owner limit mode db text tally after (Int (pos b) ∷ []) 0 (number_terms id) 3 ballot_table (number_row id b)
  put_number owner id b h = put_one owner limit mode db tally after ballot_table (Int (pos b) ∷ []) 0 (number_terms id) 3 (number_row id b) refl (λ _. ap (with_rowid Chosen (db 0)) (cast_number id b)) refl (cast_number id b) h

  pub put_vote : (owner : Option Owner) (v : ℕ × Cast) → Puts owner limit mode db text tally after (vote_shown v) 1 vote_terms 4 vote_table (vote_row v)
  put_vote owner v h = put_one owner limit mode db tally after vote_table (vote_shown v) 1 vote_terms 4 (vote_row v) refl (λ _. ap (with_rowid Chosen (db 1)) (cast_vote v)) refl (cast_vote v) h

  pub put_learned : (owner : Option Owner) (v : ℕ × List ℕ) → Puts owner limit mode db text tally after (learned_shown v) 2 learned_terms 3 learned_table (learned_row v)
  put_learned owner v h = put_one owner limit mode db tally after learned_table (learned_shown v) 2 learned_terms 3 (learned_row v) refl (λ _. ap (with_rowid Chosen (db 2)) (cast_learned v)) refl (cast_learned v) h

  pub put_fact : (owner : Owner) (v : ℕ × List ℕ) → Puts (Some owner) limit mode db text tally after (fact_shown v) 3 learned_terms 3 fact_table (fact_row v)
  put_fact owner v h = put_one (Some owner) limit mode db tally after fact_table (fact_shown v) 3 learned_terms 3 (fact_row v) refl (λ _. ap (with_rowid Chosen (db 3)) (cast_fact v)) refl (cast_fact v) h

-- another tree keeps the owner's row
still_owned : (owner : Option Owner) (db next : Trees) → next 3 ≡ db 3 → IsOwnedBy owner db → IsOwnedBy owner next
still_owned None db next same was = tt
still_owned (Some owner) db next same (n, was) = (n, (was.0, same ∙ was.1))

pub still_owned_at : (owner : Option Owner) (n : ℕ) (db next : Trees) → next 3 ≡ db 3 → IsOwnedAt owner n db → IsOwnedAt owner n next
still_owned_at None n db next same was = tt
still_owned_at (Some owner) n db next same was = (was.0, same ∙ was.1)

-- the rows of the numbers, once one was put
numbers_put : (n : ℕ) (db next : Trees) (tried row id b : ℕ) → db 0 ≡ map (λ e. number_row e.0 e.1) (three n tried row) → PutsRow ballot_table db next (number_row id b)
    → (let xs = three n tried row in next 0 ≡ map (λ e. number_row e.0 e.1) (filter (λ y. nat_lt y.0 id) xs ++ (id, b) ∷ filter (λ y. nat_lt id y.0) xs))
numbers_put n db next tried row id b was h =
    let xs = three n tried row in
    let all = subst (λ rows. AreConflicts None [] ballot_table rows (number_row id b) h.found) was h.conflict in
    h.rows ∙ (ap (λ rows. put_row (number_row id b) (without_all rows (ids_of h.found))) was
    ∙ replaced (λ (e : ℕ × ℕ). e.0) (λ e. number_row e.0 e.1) (λ e. refl) ballot_table (id, b) xs h.found (three_rise n tried row) all)

-- a number that was put leaves the other tables as they were
module _ (owner : Option Owner) (db next : Trees) (c : Content) (was : AreTablesFor owner db c) (b : ℕ) where
  numbered : (id tried row : ℕ) → PutsRow ballot_table db next (number_row id b) → next 0 ≡ map (λ e. number_row e.0 e.1) (three (number_for owner) tried row)
      → AreTablesFor owner next (record c { tried = tried; row = row })
  numbered id tried row h numbers = record {
    numbers = numbers;
    votes_are = h.others 1 (λ same. absurd cc) ∙ was.votes_are;
    learned_are = h.others 2 (λ same. absurd cc) ∙ was.learned_are;
    sound = was.sound;
    owned = still_owned owner db next (h.others 3 (λ same. absurd cc)) was.owned;
  }

  pub puts_tried : PutsRow ballot_table db next (number_row 0 b) → AreTablesFor owner next (after_write c (Some (Tried b)))
  puts_tried h = numbered 0 b c.row h (numbers_put (number_for owner) db next c.tried c.row 0 b was.numbers h)

  pub puts_promised : PutsRow ballot_table db next (number_row 1 b) → AreTablesFor owner next (after_write c (Some (Promises b)))
  puts_promised h = numbered 1 c.tried b h (numbers_put (number_for owner) db next c.tried c.row 1 b was.numbers h)

module _ (owner : Option Owner) (db next : Trees) (c : Content) (p : ℕ) (cast : Cast) (was : AreTablesFor owner db c) where
  pub puts_vote : IsPlace p → PutsRow vote_table db next (vote_row (p, cast)) → AreTablesFor owner next (after_write c (Some (Votes p cast)))
  puts_vote fits h =
      let all = subst (λ rows. AreConflicts None [] vote_table rows (vote_row (p, cast)) h.found) was.votes_are h.conflict in
      record {
        numbers = h.others 0 (λ same. absurd cc) ∙ was.numbers;
        votes_are = h.rows ∙ (ap (λ rows. put_row (vote_row (p, cast)) (without_all rows (ids_of h.found))) was.votes_are
            ∙ (replaced (λ (w : ℕ × Cast). w.0) vote_row (λ w. refl) vote_table (p, cast) c.votes h.found (rising 1 c.votes was.sound.0) all
            ∙ ap (map vote_row) (placed_is p cast 1 c.votes was.sound.0)));
        learned_are = h.others 2 (λ same. absurd cc) ∙ was.learned_are;
        sound = (rows_put 1 p cast c.votes fits.0 fits.1 was.sound.0, was.sound.1, was.sound.2);
        owned = still_owned owner db next (h.others 3 (λ same. absurd cc)) was.owned;
      }

module _ (owner : Option Owner) (db next : Trees) (c : Content) (p : ℕ) (value : List ℕ) (was : AreTablesFor owner db c) where
  pub puts_learned : IsPlace p → IsValue value → PutsRow learned_table db next (learned_row (p, value)) → AreTablesFor owner next (after_write c (Some (Learns p value)))
  puts_learned fits short h =
      let all = subst (λ rows. AreConflicts None [] learned_table rows (learned_row (p, value)) h.found) was.learned_are h.conflict in
      record {
        numbers = h.others 0 (λ same. absurd cc) ∙ was.numbers;
        votes_are = h.others 1 (λ same. absurd cc) ∙ was.votes_are;
        learned_are = h.rows ∙ (ap (λ rows. put_row (learned_row (p, value)) (without_all rows (ids_of h.found))) was.learned_are
            ∙ (replaced (λ (w : ℕ × List ℕ). w.0) learned_row (λ w. refl) learned_table (p, value) c.learned h.found (rising 1 c.learned was.sound.1) all
            ∙ ap (map learned_row) (placed_is p value 1 c.learned was.sound.1)));
        sound = (was.sound.0, rows_put 1 p value c.learned fits.0 fits.1 was.sound.1, values_put p value c.learned short was.sound.2);
        owned = still_owned owner db next (h.others 3 (λ same. absurd cc)) was.owned;
      }

-- a row that is put into a table without any
pub first_fact : (db next : Trees) (v : ℕ × List ℕ) → db 3 ≡ [] → PutsRow fact_table db next (fact_row v) → next 3 ≡ fact_row v ∷ []
first_fact db next v none h =
    let all = subst (λ rows. AreConflicts None [] fact_table rows (fact_row v) h.found) none h.conflict in
    h.rows ∙ (ap (λ rows. put_row (fact_row v) (without_all rows (ids_of h.found))) none
    ∙ replaced (λ (w : ℕ × List ℕ). w.0) fact_row (λ w. refl) fact_table v [] h.found tt all)

-- the row of the count, which is put behind the owner's or in place of the one before
counts_facts : (facts : List (ℕ × List ℕ)) (db next : Trees) (n : ℕ) → IsRisingBy (λ (v : ℕ × List ℕ). v.0) facts → db 3 ≡ map fact_row facts → PutsRow fact_table db next (fact_row (1, count_bytes n))
    → next 3 ≡ map fact_row (filter (λ y. nat_lt y.0 1) facts ++ (1, count_bytes n) ∷ filter (λ y. nat_lt 1 y.0) facts)
counts_facts facts db next n rises are h =
    let row : ℕ × List ℕ = (1, count_bytes n) in
    let all = subst (λ rows. AreConflicts None [] fact_table rows (fact_row row) h.found) are h.conflict in
    h.rows ∙ (ap (λ rows. put_row (fact_row row) (without_all rows (ids_of h.found))) are
    ∙ replaced (λ (w : ℕ × List ℕ). w.0) fact_row (λ w. refl) fact_table row facts h.found rises all)

pub counts : (owner : Owner) (db next : Trees) (n : ℕ) → IsCount n → NamesOwner owner db → PutsRow fact_table db next (fact_row (1, count_bytes n)) → OwnedAt owner n next
counts owner db next n fits (inl was) h = (fits, counts_facts (facts_of owner was.0) db next n ((lit< tt, tt), (tt, tt)) was.1.1 h)
counts owner db next n fits (inr was) h = (fits, counts_facts ((0, owner_bytes owner) ∷ []) db next n (tt, tt) was h)

-- an owner's tables of another version become those of version 4
module _ (owner : Owner) (k : ℕ) (db next : Trees) (c : Content) where
  pub puts_version : db 0 ≡ map (λ e. number_row e.0 e.1) (three k c.tried c.row) → db 1 ≡ map vote_row c.votes → db 2 ≡ map learned_row c.learned → IsSound c → OwnedBy owner db → PutsRow ballot_table db next (number_row 2 4)
      → AreTablesFor (Some owner) next c
  puts_version numbers votes learned sound owned h = record {
    numbers = numbers_put k db next c.tried c.row 2 4 numbers h;
    votes_are = h.others 1 (λ same. absurd cc) ∙ votes;
    learned_are = h.others 2 (λ same. absurd cc) ∙ learned;
    sound = sound;
    owned = still_owned (Some owner) db next (h.others 3 (λ same. absurd cc)) owned;
  }
