-- What is wrong of a schema that no node made, and of rows that no node writes.
use Rattle.std.specs.List.{AllByRecursion}
use Rattle.std.specs.Prelude.{◌≡◌, ◌≢◌, ◌⊎◌, ℕ, List, codes, map, Some, slice_get}
use Rattle.acceptor.specs.Content.{AreRowsFrom}
use Rattle.ballots.specs.declared.letters.Cast.{Cast}
use Rattle.sqlite.specs.Effect.{Database}
use Rattle.sqlite.specs.Schema.{Schema}
use Rattle.sqlite.specs.Table.{Table}
use Rattle.sqlite.specs.Tree.{Trees}
use Rattle.sqlite_schema.specs.Names.{table_named}
use Rattle.acceptor_store_parts.specs.declared.Version.{Version}
use Rattle.acceptor_store_parts.specs.declared.wrong.NodeTable.{NodeTable}
use Rattle.acceptor_store_parts.specs.declared.wrong.NodeTable.TheVariants.{Ballot, Vote, Learned, Fact}
use Rattle.acceptor_store_parts.specs.declared.wrong.WrongPart.{WrongPart}
use Rattle.acceptor_store_parts.specs.declared.wrong.WrongPart.TheVariants.{Missing, Changed, Further}
use Rattle.acceptor_store_parts.specs.Foreign.{HasFacts}
use Rattle.acceptor_store_parts.specs.Rowids.{AreShaped}
use Rattle.acceptor_store_parts.specs.Stored.{IsCast, IsLearned, KeepsLearned, learned_row, vote_row}
use Rattle.acceptor_store_parts.specs.Tables.{ballot_table, vote_table, learned_table, fact_table, schema_of}

-- the name of a table of a node, and the table as a node makes it
abbrev pub name_of : NodeTable → List ℕ
name_of Ballot = codes "ballot"
name_of Vote = codes "vote"
name_of Learned = codes "learned"
name_of Fact = codes "fact"

abbrev pub made_table : NodeTable → Table
made_table Ballot = ballot_table
made_table Vote = vote_table
made_table Learned = learned_table
made_table Fact = fact_table

-- this table has its name in the schema
abbrev pub HasAs : Schema → NodeTable → Table → Type 0
HasAs s which t = (at : ℕ) × (table_named s (name_of which) ≡ Some at) × (slice_get s.tables at ≡ Some t)

-- none has
abbrev pub HasNowhere : Schema → NodeTable → Type 0
HasNowhere s which = (t : Table) → HasAs s which t → ⊥

-- no version is without ballots and votes, and none has facts without learned values
abbrev pub IsNeeded : Schema → NodeTable → Type 0
IsNeeded s Ballot = Unit {0}
IsNeeded s Vote = Unit {0}
IsNeeded s Learned = HasFacts s
IsNeeded s Fact = ⊥

-- the table is as a node makes it, or there is none and none is needed
abbrev pub IsRight : Schema → NodeTable → Type 0
IsRight s which = HasAs s which (made_table which) ⊎ (HasNowhere s which × (IsNeeded s which → ⊥))

-- so are those that a node makes before it
abbrev pub AreRightBefore : Schema → NodeTable → Type 0
AreRightBefore s Ballot = Unit {0}
AreRightBefore s Vote = IsRight s Ballot
AreRightBefore s Learned = IsRight s Ballot × IsRight s Vote
AreRightBefore s Fact = IsRight s Ballot × IsRight s Vote × IsRight s Learned

-- a table is missing that is needed, or is another than a node makes
abbrev pub IsMissing : Schema → NodeTable → Type 0
IsMissing s which = HasNowhere s which × IsNeeded s which

abbrev pub IsChanged : Schema → NodeTable → Type 0
IsChanged s which = (t : Table) × HasAs s which t × (t ≢ made_table which)

-- the first part of a schema that is wrong: a table, or else what stands beside the tables
abbrev pub IsWrong : Schema → WrongPart → Type 0
IsWrong s (Missing which) = AreRightBefore s which × IsMissing s which
IsWrong s (Changed which) = AreRightBefore s which × IsChanged s which
IsWrong s Further = AreRightBefore s Fact × IsRight s Fact

-- the schema is that of a version, or of none
abbrev pub IsVersions : Schema → Type 0
IsVersions s = (version : Version) × (s ≡ schema_of version)

abbrev pub IsNoVersions : Schema → Type 0
IsNoVersions s = (version : Version) → s ≢ schema_of version

-- the table of votes has these, which a node writes
pub record HoldsVotes (db : Trees) (votes : List (ℕ × Cast)) : Type 0 where
  pub rows : db 1 ≡ map vote_row votes
  pub casts : AllByRecursion IsCast votes
  pub rising : AreRowsFrom 1 votes

-- the table of learned values has these, which a node writes
pub record HoldsLearned (db : Trees) (learned : List (ℕ × List ℕ)) : Type 0 where
  pub rows : db 2 ≡ map learned_row learned
  pub values : AllByRecursion IsLearned learned
  pub rising : AreRowsFrom 1 learned

-- in the tables of a version there are no such votes, or no such learned values
abbrev pub HasWrongVotes : Database → Type 0
HasWrongVotes d = (version : Version) → d.schema ≡ schema_of version → (votes : List (ℕ × Cast)) → HoldsVotes d.trees votes → ⊥

abbrev pub HasWrongLearned : Database → Type 0
HasWrongLearned d =
    (version : Version) → KeepsLearned version → d.schema ≡ schema_of version → (learned : List (ℕ × List ℕ)) → HoldsLearned d.trees learned → ⊥

-- where the tables are by rowid, there are such votes, or such learned values
abbrev pub HasRightVotes : Database → Type 0
HasRightVotes d = (version : Version) → d.schema ≡ schema_of version → AreShaped version d.trees → (votes : List (ℕ × Cast)) × HoldsVotes d.trees votes

abbrev pub HasRightLearned : Database → Type 0
HasRightLearned d =
    (version : Version) → KeepsLearned version → d.schema ≡ schema_of version → AreShaped version d.trees
    → (learned : List (ℕ × List ℕ)) × HoldsLearned d.trees learned
