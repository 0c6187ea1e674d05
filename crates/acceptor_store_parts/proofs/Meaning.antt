-- What the statements mean.
use Rattle.std.proofs.Common.{◌≡◌, refl, sym, ap, subst, Ok, false, [], List, ◌∷◌, length, pos, negsuc, Option, Some}
use Rattle.std.proofs.Common.{None, codes, ℕ}
use Rattle.sqlite_tied.specs.Compute.{everything}
use Rattle.acceptor_store_parts.proofs.Words.{Eq, Ge, Binary, misses_table, Row, Reads, State, Executes, Runs, compiled}
use Rattle.acceptor_store_parts.proofs.Words.{Compiled, Command, Replace, Select, Insert, InsertOr, CreateTable}
use Rattle.acceptor_store_parts.proofs.Words.{table_defined_by, Schema, Values, Null, Int, Query, inner, end, Term, lit}
use Rattle.acceptor_store_parts.proofs.Words.{col, op2, IsPlain, command_of, statement_of, runs_as, reads_as, Version}
use Rattle.acceptor_store_parts.proofs.Words.{First, Second, Third, Fourth, Owner, KeepsLearned, schema_for, Asked, VoteAt}
use Rattle.acceptor_store_parts.proofs.Words.{VotesFrom, LearnedAt, LearnedFrom, schema_of, blank_schema, ballot_table}
use Rattle.acceptor_store_parts.proofs.Words.{vote_table, learned_table, fact_table, ballot_text, vote_text}
use Rattle.acceptor_store_parts.proofs.Words.{learned_text, fact_text, tried_put, promised_put, vote_put, learned_put}
use Rattle.acceptor_store_parts.proofs.Words.{fact_put, version_put, numbers_query, all_votes_query, all_learned_query}
use Rattle.acceptor_store_parts.proofs.Words.{facts_query}
use Rattle.sqlite_sql.specs.declared.ops.BinaryOp.TheVariants as by
use Rattle.sqlite.specs.Listing.{understood}
use Rattle.sqlite.specs.State.{Shown}
use Rattle.acceptor_store_parts.specs.Asked.{text_of}

-- a text that is one statement, without RETURNING, which doesn't read the time
abbrev pub compiled_as : List ℕ → List (List ℕ) → Command → Compiled
compiled_as sql names command = record { command = command; returning = None; names = names; formats = []; start = 0; end = length sql; tail = length sql }

-- what a text means under a schema, with its parameters' names
pub record Means (schema : Schema) (sql : List ℕ) (names : List (List ℕ)) (command : Command) : Type 0 where
  pub is : compiled schema sql ≡ Ok (compiled_as sql names command)

abbrev pub select : Query → List (List ℕ) → Command
select query columns = Select (record { lets = []; body = query }) columns

module _ {schema : Schema} {sql : List ℕ} {names : List (List ℕ)} {command : Command} (it : Means schema sql names command) where
  pub known : understood schema sql ≡ Ok (compiled_as sql names command)
  unfolding understood
  known = rw it.is refl

  pub plain : IsPlain (understood schema sql)
  plain = subst IsPlain (sym known) (refl, refl)

  module _ (params : Row) (old new : State) (has : old.now.schema ≡ schema) where
    pub runs : (count : ℕ) → Executes sql params old new (Ok count) → Runs old new None command (statement_of sql (understood schema sql)) params count
    runs = runs_as sql params old new schema has command (ap command_of known) plain

    pub reads : (rows : List Row) → Shown sql params old new rows → Reads command old.now params rows
    reads = reads_as sql params old new schema has command (ap command_of known) plain (ap misses_table it.is)

abbrev pub one_name : List (List ℕ)
one_name = codes "?1" ∷ []

abbrev pub two_names : List (List ℕ)
two_names = codes "?1" ∷ codes "?2" ∷ []

abbrev pub three_names : List (List ℕ)
three_names = codes "?1" ∷ codes "?2" ∷ codes "?3" ∷ []

abbrev pub number_terms : ℕ → List Term
number_terms id = lit (Int (pos id)) ∷ lit Null ∷ col 0 0 ∷ []

abbrev pub vote_terms : List Term
vote_terms = col 0 0 ∷ lit Null ∷ col 0 1 ∷ col 0 2 ∷ []

pub tried_put_is : (owner : Option Owner) → Means (schema_for owner) tried_put one_name (InsertOr 0 Replace (Values (number_terms 0) 3) [])
unfolding everything
tried_put_is None = record { is = refl }
tried_put_is (Some owner) = record { is = refl }

pub promised_put_is : (owner : Option Owner) → Means (schema_for owner) promised_put one_name (InsertOr 0 Replace (Values (number_terms 1) 3) [])
unfolding everything
promised_put_is None = record { is = refl }
promised_put_is (Some owner) = record { is = refl }

pub vote_put_is : (owner : Option Owner) → Means (schema_for owner) vote_put three_names (InsertOr 1 Replace (Values vote_terms 4) [])
unfolding everything
vote_put_is None = record { is = refl }
vote_put_is (Some owner) = record { is = refl }

abbrev pub learned_terms : List Term
learned_terms = col 0 0 ∷ lit Null ∷ col 0 1 ∷ []

pub learned_put_is : (owner : Option Owner) → Means (schema_for owner) learned_put two_names (InsertOr 2 Replace (Values learned_terms 3) [])
unfolding everything
learned_put_is None = record { is = refl }
learned_put_is (Some owner) = record { is = refl }

-- columns of the rows of a tree, by ascending rowid, where each row passes the filter
abbrev pub rows_query : ℕ → List Term → List Term → Query
rows_query tree filter columns = record {
  from = inner tree end;
  filter = filter;
  group = None;
  project = columns;
  distinct = false;
  collations = [];
  order = (col 1 0, record { collation = Binary; descending = false }) ∷ [];
  limit = lit (Int (negsuc 0));
  offset = lit (Int (pos 0));
}

-- the rowid is not below the parameter
abbrev pub is_from : List Term
is_from = op2 (by.Compare Ge Binary) (col 1 0) (col 0 0) ∷ []

-- the rowid is the parameter
abbrev pub is_at : List Term
is_at = op2 (by.Compare Eq Binary) (col 1 0) (col 0 0) ∷ []

-- what is shown of a number, of a vote and of a learned value
abbrev pub two_columns : List Term
two_columns = col 1 0 ∷ col 1 2 ∷ []

abbrev pub three_columns : List Term
three_columns = col 1 0 ∷ col 1 2 ∷ col 1 3 ∷ []

-- the queries of rows by their place
abbrev pub query_of : Asked → Query
query_of VoteAt = rows_query 1 is_at three_columns
query_of VotesFrom = rows_query 1 is_from three_columns
query_of LearnedAt = rows_query 2 is_at two_columns
query_of LearnedFrom = rows_query 2 is_from two_columns

abbrev pub names_of : Asked → List (List ℕ)
names_of VoteAt = codes "place" ∷ codes "ballot" ∷ codes "value" ∷ []
names_of VotesFrom = codes "place" ∷ codes "ballot" ∷ codes "value" ∷ []
names_of LearnedAt = codes "place" ∷ codes "value" ∷ []
names_of LearnedFrom = codes "place" ∷ codes "value" ∷ []

pub asked_is : (asked : Asked) (owner : Option Owner) → Means (schema_for owner) (text_of asked) one_name (select (query_of asked) (names_of asked))
unfolding everything
asked_is VoteAt None = record { is = refl }
asked_is VoteAt (Some owner) = record { is = refl }
asked_is VotesFrom None = record { is = refl }
asked_is VotesFrom (Some owner) = record { is = refl }
asked_is LearnedAt None = record { is = refl }
asked_is LearnedAt (Some owner) = record { is = refl }
asked_is LearnedFrom None = record { is = refl }
asked_is LearnedFrom (Some owner) = record { is = refl }

abbrev pub all_learned_meaning : Query
all_learned_meaning = rows_query 2 [] two_columns

pub all_learned_is : (version : Version) → KeepsLearned version
    → Means (schema_of version) all_learned_query [] (select all_learned_meaning (codes "place" ∷ codes "value" ∷ []))
unfolding everything
all_learned_is First keeps = absurd keeps
all_learned_is Second keeps = record { is = refl }
all_learned_is Third keeps = record { is = refl }
all_learned_is Fourth keeps = record { is = refl }

abbrev pub facts_meaning : Query
facts_meaning = rows_query 3 [] two_columns

pub facts_is : Means (schema_of Third) facts_query [] (select facts_meaning (codes "id" ∷ codes "bytes" ∷ []))
unfolding everything
facts_is = record { is = refl }

abbrev pub both_query : Query
both_query = rows_query 0 [] two_columns

pub numbers_query_is : (version : Version) → Means (schema_of version) numbers_query [] (select both_query (codes "id" ∷ codes "number" ∷ []))
unfolding everything
numbers_query_is First = record { is = refl }
numbers_query_is Second = record { is = refl }
numbers_query_is Third = record { is = refl }
numbers_query_is Fourth = record { is = refl }

abbrev pub ballot_schema : Schema
ballot_schema = record { tables = ballot_table ∷ []; indexes = []; views = [] }

abbrev pub numbers_put : List ℕ
numbers_put = codes "INSERT INTO ballot (id, number) VALUES (0, 0), (1, 0), (2, 2)"

abbrev pub second_put : List ℕ
second_put = codes "INSERT INTO ballot (id, number) VALUES (2, 2)"

pub create_ballot_is : Means blank_schema ballot_text [] CreateTable × (table_defined_by ballot_text ≡ Ok ballot_table)
unfolding everything
create_ballot_is = (record { is = refl }, refl)

pub create_vote_is : Means ballot_schema vote_text [] CreateTable × (table_defined_by vote_text ≡ Ok (record vote_table { tree = 0 }))
unfolding everything
create_vote_is = (record { is = refl }, refl)

pub create_learned_is : Means (schema_of First) learned_text [] CreateTable × (table_defined_by learned_text ≡ Ok (record learned_table { tree = 0 }))
unfolding everything
create_learned_is = (record { is = refl }, refl)

abbrev pub numbers_terms : List Term
numbers_terms = lit (Int (pos 0)) ∷ lit Null ∷ lit (Int (pos 0)) ∷ lit (Int (pos 1)) ∷ lit Null ∷ lit (Int (pos 0)) ∷ lit (Int (pos 2)) ∷ lit Null ∷ lit (Int (pos 2)) ∷ []

pub numbers_put_is : Means (schema_of Second) numbers_put [] (Insert 0 (Values numbers_terms 3))
unfolding everything
numbers_put_is = record { is = refl }

pub create_fact_is : Means (schema_of Second) fact_text [] CreateTable × (table_defined_by fact_text ≡ Ok (record fact_table { tree = 0 }))
unfolding everything
create_fact_is = (record { is = refl }, refl)

pub fact_put_is : Means (schema_of Third) fact_put two_names (InsertOr 3 Replace (Values learned_terms 3) [])
unfolding everything
fact_put_is = record { is = refl }

pub version_put_is : Means (schema_of Third) version_put one_name (InsertOr 0 Replace (Values (number_terms 2) 3) [])
unfolding everything
version_put_is = record { is = refl }

abbrev pub second_terms : List Term
second_terms = lit (Int (pos 2)) ∷ lit Null ∷ lit (Int (pos 2)) ∷ []

pub second_put_is : Means (schema_of Second) second_put [] (Insert 0 (Values second_terms 3))
unfolding everything
second_put_is = record { is = refl }

abbrev pub all_query : Query
all_query = rows_query 1 [] three_columns

pub all_votes_query_is : (version : Version) → Means (schema_of version) all_votes_query [] (select all_query (codes "place" ∷ codes "ballot" ∷ codes "value" ∷ []))
unfolding everything
all_votes_query_is First = record { is = refl }
all_votes_query_is Second = record { is = refl }
all_votes_query_is Third = record { is = refl }
all_votes_query_is Fourth = record { is = refl }
