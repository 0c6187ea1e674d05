-- What the texts make that make the tables.
use Rattle.std.proofs.Common.{◌≡◌, ℕ, ◌/◌, List, [], ◌∷◌, length, map, pos, true, false, Option, Some, None, Ok, Err}
use Rattle.std.proofs.Common.{Result, OnOk, IsTrue, inr, lit<, refl, sym, ap, subst, ◌∙◌, arith}
use Rattle.acceptor_store_parts.proofs.Words.{Row, Schema, Values, Replace, Int, Insert, InsertOr, CreateTable, created}
use Rattle.acceptor_store_parts.proofs.Words.{next_tree, KeepsRows, Tally, Does, lacks_sequence, put_row, Database}
use Rattle.acceptor_store_parts.proofs.Words.{value_rows, Term, table_defined_by, State, HasCleanDisk, Survives, Writes}
use Rattle.acceptor_store_parts.proofs.Words.{Executes, Shows, Ghosts, Held, state, mode_of, edited, with_rowid}
use Rattle.acceptor_store_parts.proofs.Words.{cast_row, Written, value_cmp-Int, Content, IsSound, no_content, Owner}
use Rattle.acceptor_store_parts.proofs.Words.{number_row, vote_row, learned_row, fact_row, fact_shown, three}
use Rattle.acceptor_store_parts.proofs.Words.{AreTablesOf, AreTablesFor, owner_bytes, schema_for, one_step}
use Rattle.acceptor_store_parts.proofs.Words.{statement_of, survives_begin, survives_then, schema_of, blank_schema}
use Rattle.acceptor_store_parts.proofs.Words.{ballot_table, vote_table, learned_table, fact_table, ballot_text}
use Rattle.acceptor_store_parts.proofs.Words.{vote_text, learned_text, fact_text, fact_put, version_put, First, Second}
use Rattle.acceptor_store_parts.proofs.Words.{Third, AreTablesAt, HoldsAt, HoldsUncounted, IsOwnedAt, NamesOwner, PutsCount}
use Rattle.acceptor_store_parts.proofs.Words.{ServesAt, count_bytes, first_count}
use Rattle.ballots.specs.declared.members.Members.TheVariants.{Three}
use Rattle.sqlite.specs.Tree.{Trees}
use Rattle.sqlite.specs.Listing.{understood}
use Rattle.sqlite.specs.Table.{Table}
use Rattle.sqlite.specs.Edit.{edit_of}
use Rattle.sqlite.specs.Rowids.TheVariants.{Chosen}
use Rattle.acceptor_store_parts.proofs.Meaning.{Means, compiled_as, known, runs, ballot_schema, numbers_put}
use Rattle.acceptor_store_parts.proofs.Meaning.{number_terms, numbers_terms, learned_terms, second_put, second_terms}
use Rattle.acceptor_store_parts.proofs.Meaning.{create_ballot_is, create_vote_is, create_learned_is, numbers_put_is}
use Rattle.acceptor_store_parts.proofs.Meaning.{second_put_is, create_fact_is, fact_put_is, version_put_is}
use Rattle.acceptor_store_parts.proofs.Writes.{PutsRow, cast_number, counts, put_number, put_fact, first_fact}
use Rattle.acceptor_store_parts.proofs.Writes.{puts_version, still_owned_at}
use Rattle.acceptor_store_parts.proofs.Puts.{went, same_value}

-- CREATE TABLE adds an empty tree, and keeps the rows of the others
makes : (text : List ℕ) (schema : Schema) (table : Table) → Means schema text [] CreateTable × (table_defined_by text ≡ Ok table) → statement_of text (Ok (compiled_as text [] CreateTable)) ≡ text → lacks_sequence (created schema table) ≡ false
    → (old new : State) (count : ℕ) → old.now.schema ≡ schema → Executes text [] old new (Ok count)
    → (new.now.schema ≡ created schema table) × KeepsRows schema.tables old.now.trees new.now.trees × (new.now.trees (next_tree schema) ≡ [])
makes text schema table is whole plain old new count has h =
    let w = subst (λ t. Writes old new None CreateTable t [] count) (ap (statement_of text) (known is.0) ∙ whole) (runs is.0 [] old new has count h) in
    let all = went w.changed in
    let first = went all.1 in
    let made = first.1 in
    let both : Ok made.table ≡ Ok table = sym made.defined ∙ is.1 in
    let same : made.table ≡ table = cc in
    let is_schema : first.0.schema ≡ created schema table = made.is ∙ ap (λ s. created s made.table) has ∙ ap (created schema) same in
    let lacks : lacks_sequence first.0.schema ≡ false = ap lacks_sequence is_schema ∙ plain in
    let now : new.now ≡ first.0 = ap (λ (p : Tally × Database). p.1) (same_value all.2) ∙ same_value (rw lacks at first.2) in
    let kept : KeepsRows schema.tables old.now.trees first.0.trees = subst (λ (s : Schema). KeepsRows s.tables old.now.trees first.0.trees) has made.others in (
      ap (λ (d : Database). d.schema) now ∙ is_schema,
      subst (λ (d : Database). KeepsRows schema.tables old.now.trees d.trees) (sym now) kept,
      ap (λ (d : Database). d.trees (next_tree schema)) now ∙ subst (λ s. first.0.trees (next_tree s) ≡ []) has made.empty,
    )

module _ (old new : State) (count : ℕ) where
  pub makes_ballot : old.now.schema ≡ blank_schema → Executes ballot_text [] old new (Ok count) → (new.now.schema ≡ ballot_schema) × (new.now.trees 0 ≡ [])
  makes_ballot has h = let made = makes ballot_text blank_schema ballot_table create_ballot_is refl refl old new count has h in (made.0, made.2)

  pub makes_vote : old.now.schema ≡ ballot_schema → old.now.trees 0 ≡ [] → Executes vote_text [] old new (Ok count) → (new.now.schema ≡ schema_of First) × (new.now.trees 0 ≡ []) × (new.now.trees 1 ≡ [])
  makes_vote has none h = let made = makes vote_text ballot_schema (record vote_table { tree = 0 }) create_vote_is refl refl old new count has h in (made.0, made.1.0 ∙ none, made.2)

  pub makes_learned : old.now.schema ≡ schema_of First → Executes learned_text [] old new (Ok count)
      → (new.now.schema ≡ schema_of Second) × (new.now.trees 0 ≡ old.now.trees 0) × (new.now.trees 1 ≡ old.now.trees 1) × (new.now.trees 2 ≡ [])
  makes_learned has h =
      let made = makes learned_text (schema_of First) (record learned_table { tree = 0 }) create_learned_is refl refl old new count has h in
      (made.0, made.1.0, made.1.1.0, made.2)

  pub makes_fact : old.now.schema ≡ schema_of Second → Executes fact_text [] old new (Ok count)
      → (new.now.schema ≡ schema_of Third) × (new.now.trees 0 ≡ old.now.trees 0) × (new.now.trees 1 ≡ old.now.trees 1) × (new.now.trees 2 ≡ old.now.trees 2) × (new.now.trees 3 ≡ [])
  makes_fact has h =
      let made = makes fact_text (schema_of Second) (record fact_table { tree = 0 }) create_fact_is refl refl old new count has h in
      (made.0, made.1.0, made.1.1.0, made.1.1.1.0, made.2)

-- a row put after the others
abbrev with_next : List Row → Row → List Row
with_next rows row = put_row (with_rowid Chosen rows row) rows

put_third : (tried row : ℕ) → with_next (number_row 0 tried ∷ number_row 1 row ∷ []) (number_row 2 2) ≡ number_row 0 tried ∷ number_row 1 row ∷ number_row 2 2 ∷ []
put_third tried row = rw (value_cmp-Int, value_cmp-Int) refl

put_all : with_next (with_next (with_next [] (number_row 0 0)) (number_row 1 0)) (number_row 2 2) ≡ number_row 0 0 ∷ number_row 1 0 ∷ number_row 2 2 ∷ []
put_all = rw (value_cmp-Int, value_cmp-Int, value_cmp-Int) refl

abbrev news : List Row
news = number_row 0 0 ∷ number_row 1 0 ∷ number_row 2 2 ∷ []

all_rows : (db : Trees) → db 0 ≡ [] → edited db (edit_of db ballot_table [] Chosen 0 news) ≡ news
all_rows db none =
    let whole : edited db (edit_of db ballot_table [] Chosen 0 news)
    ≡ with_next (with_next (with_next (db 0) (cast_row ballot_table (number_row 0 0))) (cast_row ballot_table (number_row 1 0))) (cast_row ballot_table (number_row 2 2)) = refl in
    let one = ap (λ r. with_next (with_next (with_next (db 0) r) (cast_row ballot_table (number_row 1 0))) (cast_row ballot_table (number_row 2 2))) (cast_number 0 0) in
    let two = ap (λ r. with_next (with_next (with_next (db 0) (number_row 0 0)) r) (cast_row ballot_table (number_row 2 2))) (cast_number 1 0) in
    let three = ap (λ r. with_next (with_next (with_next (db 0) (number_row 0 0)) (number_row 1 0)) r) (cast_number 2 2) in
    let empty = ap (λ rows. with_next (with_next (with_next rows (number_row 0 0)) (number_row 1 0)) (number_row 2 2)) none in
    whole ∙ (one ∙ (two ∙ (three ∙ (empty ∙ put_all))))

third_row : (db : Trees) (tried row : ℕ) → db 0 ≡ number_row 0 tried ∷ number_row 1 row ∷ []
    → edited db (edit_of db ballot_table [] Chosen 0 (number_row 2 2 ∷ [])) ≡ number_row 0 tried ∷ number_row 1 row ∷ number_row 2 2 ∷ []
third_row db tried row is =
    let whole : edited db (edit_of db ballot_table [] Chosen 0 (number_row 2 2 ∷ [])) ≡ with_next (db 0) (cast_row ballot_table (number_row 2 2)) = refl in
    whole ∙ (ap (with_next (db 0)) (cast_number 2 2) ∙ (ap (λ rows. with_next rows (number_row 2 2)) is ∙ put_third tried row))

other_tree : ◌≡◌ {A = ℕ} 1 0 → ⊥
other_tree same = absurd cc

another_tree : ◌≡◌ {A = ℕ} 2 0 → ⊥
another_tree same = absurd cc

-- INSERT of numbers into the tables of version 2, whose rows of numbers are then a content's
module _ (text : List ℕ) (terms : List Term) (news : List Row) (is : Means (schema_of Second) text [] (Insert 0 (Values terms 3))) (rows : value_rows [] 3 (length terms / 3) terms ≡ news)
    (old new : State) (c : Content) (count : ℕ) (has : old.now.schema ≡ schema_of Second) where
  inserts : edited old.now.trees (edit_of old.now.trees ballot_table [] Chosen 0 news) ≡ map (λ e. number_row e.0 e.1) (three 2 c.tried c.row) → old.now.trees 1 ≡ map vote_row c.votes → old.now.trees 2 ≡ map learned_row c.learned → IsSound c
      → Executes text [] old new (Ok count) → (new.now.schema ≡ schema_of Second) × AreTablesFor None new.now.trees c
  inserts numbers votes learned sound h =
      let db = old.now.trees in
      let command = Insert 0 (Values terms 3) in
      let w = runs is [] old new has count h in
      let stated = statement_of text (understood (schema_of Second) text) in
      let done = went (subst (λ s. Does old.step_limit (mode_of old) [] (record old.now { schema = s }) stated None command (Ok (w.tally, new.now))) has w.changed) in
      let now = ap (λ (p : Tally × Database). p.1) (same_value (went (went done.2).2).2) in
      let given = went done.1 in
      let written = went (went given.2).2 in
      let counted = went written.2 in
      let trees : done.0.trees ≡ written.0 = ap (λ (it : Written). it.trees) (same_value counted.2) ∙ same_value counted.1 in
      let step = one_step (schema_of Second) _ db written.0 (edit_of db ballot_table [] Chosen 0 given.0) refl written.1 in
      let edit = ap (λ all. edited db (edit_of db ballot_table [] Chosen 0 all)) (given.1.1 ∙ rows) ∙ numbers in
      let at : (t : ℕ) → new.now.trees t ≡ written.0 t = λ t. ap (λ (d : Database). d.trees t) now ∙ ap (λ (all : Trees). all t) trees in (
        ap (λ (d : Database). d.schema) now,
        record {
          numbers = at 0 ∙ (step.rows ∙ edit);
          votes_are = at 1 ∙ (step.others 1 other_tree tt ∙ votes);
          learned_are = at 2 ∙ (step.others 2 another_tree tt ∙ learned);
          sound = sound;
          owned = tt;
        },
      )

-- a row that one statement puts into a table, where there is one of facts
module _ (old new : State) (count : ℕ) (has : old.now.schema ≡ schema_of Third) where
  pub puts_fact : (owner : Owner) (v : ℕ × List ℕ) → Executes fact_put (fact_shown v) old new (Ok count) → (new.now.schema ≡ schema_of Third) × PutsRow fact_table old.now.trees new.now.trees (fact_row v)
  puts_fact owner v h =
      let command = InsertOr 3 Replace (Values learned_terms 3) [] in
      let row = fact_shown v in
      let w = runs fact_put_is _ old new has count h in
      let text = statement_of fact_put (understood (schema_of Third) fact_put) in
      let does = subst (λ s. Does old.step_limit (mode_of old) row (record old.now { schema = s }) text None command (Ok (w.tally, new.now))) has w.changed in
      put_fact old.step_limit (mode_of old) old.now.trees text w.tally new.now owner v does

  pub puts_last_number : (owner : Owner) → Executes version_put (Int (pos 4) ∷ []) old new (Ok count) → (new.now.schema ≡ schema_of Third) × PutsRow ballot_table old.now.trees new.now.trees (number_row 2 4)
  puts_last_number owner h =
      let command = InsertOr 0 Replace (Values (number_terms 2) 3) [] in
      let w = runs version_put_is _ old new has count h in
      let text = statement_of version_put (understood (schema_of Third) version_put) in
      let does = subst (λ s. Does old.step_limit (mode_of old) (Int (pos 4) ∷ []) (record old.now { schema = s }) text None command (Ok (w.tally, new.now))) has w.changed in
      put_number old.step_limit (mode_of old) old.now.trees text w.tally new.now (Some owner) 2 4 does

-- a count that is put, inside a transaction
pub puts_count : (old new : State) (count n : ℕ) → IsTrue new.in_transaction → Executes fact_put (fact_shown (1, count_bytes n)) old new (Ok count) → PutsCount n old new
puts_count old new count n inside h = (
  inside,
  λ has.
      let put = λ (owner : Owner). puts_fact old new count has owner (1, count_bytes n) h in
      let any : Owner = record { node = 0; members = Three } in
      ((put any).0, λ tree other. (put any).1.others tree other, λ owner fits names. counts owner old.now.trees new.now.trees n fits names (put owner).1),
)

-- the tables that are made in a database without any
pub made_after : (s₀ s₁ s₂ s₃ s₄ : State) (m n k l : ℕ) → s₀.now.schema ≡ blank_schema → Executes ballot_text [] s₀ s₁ (Ok m) → Executes vote_text [] s₁ s₂ (Ok n) → Executes learned_text [] s₂ s₃ (Ok k) → Executes numbers_put [] s₃ s₄ (Ok l)
    → (s₄.now.schema ≡ schema_for None) × AreTablesFor None s₄.now.trees no_content
made_after s₀ s₁ s₂ s₃ s₄ m n k l has one two three four =
    let a = makes_ballot s₀ s₁ m has one in
    let b = makes_vote s₁ s₂ n a.0 a.1 two in
    let c = makes_learned s₂ s₃ k b.0 three in
    inserts numbers_put numbers_terms news numbers_put_is refl s₃ s₄ no_content l c.0 (all_rows s₃.now.trees (c.1 ∙ b.1)) (c.2 ∙ b.2) c.3 (tt, tt, tt) four

-- the tables of version 2 that are made of those of version 1
pub raised_after : (s₀ s₁ s₂ : State) (c : Content) (m n : ℕ) → s₀.now.schema ≡ schema_of First → AreTablesOf First s₀.now.trees c → Executes learned_text [] s₀ s₁ (Ok m) → Executes second_put [] s₁ s₂ (Ok n)
    → (s₂.now.schema ≡ schema_for None) × AreTablesFor None s₂.now.trees c
raised_after s₀ s₁ s₂ c m n has was one two =
    let a = makes_learned s₀ s₁ m has one in
    inserts second_put second_terms (number_row 2 2 ∷ []) second_put_is refl s₁ s₂ c n a.0 (third_row s₁.now.trees c.tried c.row (a.1 ∙ was.numbers)) (a.2 ∙ was.votes_are) (a.3 ∙ ap (map learned_row) (sym was.learned_are)) was.sound two

-- tables that name an owner, with a count and the number of version 4, are served for it
module _ (owner : Owner) (k : ℕ) (s₀ s₁ s₂ : State) (c : Content) (m : ℕ) (has : s₀.now.schema ≡ schema_of Third) (names : NamesOwner owner s₀.now.trees) where
  pub counted_after : s₀.now.trees 0 ≡ map (λ e. number_row e.0 e.1) (three k c.tried c.row) → s₀.now.trees 1 ≡ map vote_row c.votes → s₀.now.trees 2 ≡ map learned_row c.learned → IsSound c → PutsCount first_count s₀ s₁
      → Executes version_put (Int (pos 4) ∷ []) s₁ s₂ (Ok m) → HoldsAt (Some owner) first_count s₂.now c
  counted_after numbers votes learned sound counted two =
      let a = counted.1 has in
      let owned = a.2 owner (lit< tt) names in
      let put = puts_last_number s₁ s₂ m a.0 owner two in
      let tables = puts_version owner k s₁.now.trees s₂.now.trees c (a.1 0 (λ same. absurd cc) ∙ numbers) (a.1 1 (λ same. absurd cc) ∙ votes) (a.1 2 (λ same. absurd cc) ∙ learned) sound (first_count, owned) put.1 in
      ((put.0, tables), still_owned_at (Some owner) first_count s₁.now.trees s₂.now.trees (put.1.others 3 (λ same. absurd cc)) owned)

-- the tables of version 4 that are made of those of version 2
pub owned_after : (owner : Owner) (s₀ s₁ s₂ s₃ s₄ : State) (c : Content) (m n k : ℕ) → s₀.now.schema ≡ schema_for None → AreTablesFor None s₀.now.trees c → Executes fact_text [] s₀ s₁ (Ok m)
    → Executes fact_put (fact_shown (0, owner_bytes owner)) s₁ s₂ (Ok n) → PutsCount first_count s₂ s₃ → Executes version_put (Int (pos 4) ∷ []) s₃ s₄ (Ok k) → HoldsAt (Some owner) first_count s₄.now c
owned_after owner s₀ s₁ s₂ s₃ s₄ c m n k has was one two counted four =
    let a = makes_fact s₀ s₁ m has one in
    let b = puts_fact s₁ s₂ n a.0 owner (0, owner_bytes owner) two in
    counted_after owner 2 s₂ s₃ s₄ c k b.0 (inr (first_fact s₁.now.trees s₂.now.trees (0, owner_bytes owner) a.4 b.1)) (b.1.others 0 (λ same. absurd cc) ∙ (a.1 ∙ was.numbers)) (b.1.others 1 (λ same. absurd cc) ∙ (a.2 ∙ was.votes_are))
    (b.1.others 2 (λ same. absurd cc) ∙ (a.3 ∙ was.learned_are)) was.sound counted four

-- and of those of version 3
pub raised_count : (owner : Owner) (s₀ s₁ s₂ : State) (c : Content) (m : ℕ) → HoldsUncounted owner s₀.now c → PutsCount first_count s₀ s₁ → Executes version_put (Int (pos 4) ∷ []) s₁ s₂ (Ok m) → HoldsAt (Some owner) first_count s₂.now c
raised_count owner s₀ s₁ s₂ c m was counted two = counted_after owner 3 s₀ s₁ s₂ c m was.0 (inr was.1.1) was.1.0.numbers was.1.0.votes_are was.1.0.learned_are was.1.0.sound counted two

-- tables that were committed are served
pub served_after : (owner : Option Owner) (n : ℕ) (last end : State) (c : Content) → HoldsAt owner n last.now c → Shows last end last.now last.now false → ServesAt owner n end c
served_after owner n last end c made shows = record {
  serves = record {
    is_open = shows.is_open;
    autocommit = shows.mode;
    settled = shows.now_is ∙ sym shows.committed_is;
    schema = ap (λ (d : Database). d.schema) shows.now_is ∙ made.0.0;
    tables = subst (λ (d : Database). AreTablesFor owner d.trees c) (sym shows.now_is) made.0.1;
  };
  counted = subst (λ (d : Database). IsOwnedAt owner n d.trees) (sym shows.now_is) made.1;
}

-- what follows inside a transaction commits nothing
pub inside_then : {a b c : State} → Survives a b (λ _. ⊥) → Survives b c (λ _. ⊥) → Survives a c (λ _. ⊥)
inside_then {a} {b} {c} one two = survives_then a b c _ _ (λ _. ⊥) (λ _ db no. no) (λ _ db no. no) one two

-- a transaction that made tables, and its end
module _ {S : Type 0} (g : Ghosts S) (conn end : Held S) (mid : State) (Was : Database → Content → Type 0) (owner : Option Owner) (ran : Survives (state g (record conn { in_transaction = true })) mid (λ _. ⊥))
    (made : HasCleanDisk mid → (c : Content) → Was (state g conn).now c → HoldsAt owner first_count mid.now c) (ends : Survives mid (state g end) (λ db. db ≡ mid.now.trees)) where
  pub committed : Shows mid (state g end) mid.now mid.now false → HasCleanDisk (state g end) → (c : Content) → Was (state g conn).now c → ServesAt owner first_count (state g end) c
  committed shows clean c was = served_after owner first_count mid (state g end) c (made (omega (arith, ends.clean, clean)) c was) shows

  pub may_commit : Survives (state g conn) (state g end) (λ db. (c : Content) → Was (state g conn).now c → AreTablesAt owner first_count db c)
  may_commit = survives_then (state g conn) mid (state g end) (λ _. ⊥) (λ db. db ≡ mid.now.trees) _ (λ _ db no. absurd no)
      (λ clean db is c was. let it = made (omega (arith, ends.clean, clean)) c was in subst (λ t. AreTablesAt owner first_count t c) (sym is) (it.0.1, it.1)) (survives_begin g conn mid _ ran) ends

pub on_ok : {T E A B : Type 0} (r : Result T E) → OnOk r A → (A → B) → OnOk r B
on_ok (Ok x) h f = f h
on_ok (Err e) h f = tt

pub both : {T E A B C : Type 0} (r : Result T E) → OnOk r A → OnOk r B → (A → B → C) → OnOk r C
both (Ok x) h k f = f h k
both (Err e) h k f = tt
