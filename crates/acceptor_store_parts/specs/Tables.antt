-- The tables of a node's records, by version.
use Rattle.std.specs.Prelude.{◌≡◌, Bool, true, false, [], ◌∷◌, Some, codes, List, ℕ}
use Rattle.sqlite.specs.Collation.TheVariants.{Binary}
use Rattle.sqlite.specs.declared.types.Value.TheVariants.{Null}
use Rattle.sqlite.specs.Table.{Table}
use Rattle.sqlite.specs.Schema.{Schema}
use Rattle.sqlite.specs.Kind.{Kind}
use Rattle.sqlite.specs.Kind.TheVariants.{Integer, Blob}
use Rattle.sqlite_schema.specs.declared.schema.Column.{Column}
use Rattle.acceptor_store_parts.specs.declared.Version.{Version}
use Rattle.acceptor_store_parts.specs.declared.Version.TheVariants.{First, Second, Third, Fourth}

-- the texts that make the tables
abbrev pub ballot_text : List ℕ
ballot_text = codes "CREATE TABLE ballot (id INTEGER PRIMARY KEY, number INTEGER NOT NULL) STRICT"

abbrev pub vote_text : List ℕ
vote_text = codes "CREATE TABLE vote (place INTEGER PRIMARY KEY, ballot INTEGER NOT NULL, value BLOB NOT NULL) STRICT"

abbrev pub learned_text : List ℕ
learned_text = codes "CREATE TABLE learned (place INTEGER PRIMARY KEY, value BLOB NOT NULL) STRICT"

abbrev pub fact_text : List ℕ
fact_text = codes "CREATE TABLE fact (id INTEGER PRIMARY KEY, bytes BLOB NOT NULL) STRICT"

-- a column of a STRICT table
abbrev pub column : List ℕ → Kind → Bool → Column
column name kind not_null = record { name = name; kind = kind; is_strict = true; not_null = not_null; default = Null; collation = Binary }

-- a STRICT table whose first column is its key, and that has no rule beyond its columns'
abbrev pub strict_table : List ℕ → ℕ → List Column → Table
strict_table name tree columns = record {
  name = name;
  tree = tree;
  columns = columns;
  key = Some 0;
  primary = 0 ∷ [];
  uniques = [];
  orders = [];
  checks = [];
  references = [];
  computed = [];
  stamps = record { places = []; terms = []; formats = [] };
  is_counted = false;
}

-- the tables that these texts declare
abbrev pub ballot_table : Table
ballot_table = strict_table (codes "ballot") 0 (column (codes "id") Integer false ∷ column (codes "number") Integer true ∷ [])

abbrev pub vote_table : Table
vote_table = strict_table (codes "vote") 1 (column (codes "place") Integer false ∷ column (codes "ballot") Integer true ∷ column (codes "value") Blob true ∷ [])

abbrev pub learned_table : Table
learned_table = strict_table (codes "learned") 2 (column (codes "place") Integer false ∷ column (codes "value") Blob true ∷ [])

abbrev pub fact_table : Table
fact_table = strict_table (codes "fact") 3 (column (codes "id") Integer false ∷ column (codes "bytes") Blob true ∷ [])

-- version 1 has the tables of ballots and votes alone, version 2 that of learned values beside them, and version 3 that
-- of facts too; those of version 4 are the same, with a further row
abbrev pub schema_of : Version → Schema
schema_of First = record { tables = ballot_table ∷ vote_table ∷ []; indexes = []; views = [] }
schema_of Second = record { tables = ballot_table ∷ vote_table ∷ learned_table ∷ []; indexes = []; views = [] }
schema_of Third = record { tables = ballot_table ∷ vote_table ∷ learned_table ∷ fact_table ∷ []; indexes = []; views = [] }
schema_of Fourth = record { tables = ballot_table ∷ vote_table ∷ learned_table ∷ fact_table ∷ []; indexes = []; views = [] }

-- the schema of no table
abbrev pub blank_schema : Schema
blank_schema = record { tables = []; indexes = []; views = [] }

-- the texts of the statements
abbrev pub tried_put : List ℕ
tried_put = codes "INSERT OR REPLACE INTO ballot (id, number) VALUES (0, ?1)"

abbrev pub promised_put : List ℕ
promised_put = codes "INSERT OR REPLACE INTO ballot (id, number) VALUES (1, ?1)"

abbrev pub numbers_query : List ℕ
numbers_query = codes "SELECT id, number FROM ballot ORDER BY id"

abbrev pub all_votes_query : List ℕ
all_votes_query = codes "SELECT place, ballot, value FROM vote ORDER BY place"

abbrev pub vote_put : List ℕ
vote_put = codes "INSERT OR REPLACE INTO vote (place, ballot, value) VALUES (?1, ?2, ?3)"

abbrev pub all_learned_query : List ℕ
all_learned_query = codes "SELECT place, value FROM learned ORDER BY place"

abbrev pub learned_put : List ℕ
learned_put = codes "INSERT OR REPLACE INTO learned (place, value) VALUES (?1, ?2)"

abbrev pub facts_query : List ℕ
facts_query = codes "SELECT id, bytes FROM fact ORDER BY id"

abbrev pub fact_put : List ℕ
fact_put = codes "INSERT OR REPLACE INTO fact (id, bytes) VALUES (?1, ?2)"

abbrev pub version_put : List ℕ
version_put = codes "INSERT OR REPLACE INTO ballot (id, number) VALUES (2, ?1)"

-- no rule beside those of the columns, and the first column is the rowid
pub record IsPlainTable (t : Table) : Type 0 where
  pub key : t.key ≡ Some 0
  pub primary : t.primary ≡ 0 ∷ []
  pub uniques : t.uniques ≡ []
  pub orders : t.orders ≡ []
  pub checks : t.checks ≡ []
  pub references : t.references ≡ []
  pub computed : t.computed ≡ []
  pub stamps : t.stamps ≡ record { places = []; terms = []; formats = [] }
  pub uncounted : t.is_counted ≡ false
