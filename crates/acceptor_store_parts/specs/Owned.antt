-- Whose a database is, how many transactions it has counted, and the tables that records are served from.
use Rattle.std.specs.Prelude.{◌≡◌, ◌⊎◌, ℕ, ◌+◌, ◌<◌, ◌^◌, List, [], ◌∷◌, map, Option, Some, None}
use Rattle.std.specs.Int.{to_be_bytes, w64}
use Rattle.ballots.specs.Members.{member_count}
use Rattle.acceptor.specs.Content.{Content, IsSound}
use Rattle.sqlite.specs.Schema.{Schema}
use Rattle.sqlite.specs.Table.{Table}
use Rattle.sqlite.specs.Tree.{Trees}
use Rattle.acceptor_store_parts.specs.declared.Version.{Version}
use Rattle.acceptor_store_parts.specs.declared.Version.TheVariants.{Second, Third, Fourth}
use Rattle.acceptor_store_parts.specs.declared.owner.Owner.{Owner}
use Rattle.acceptor_store_parts.specs.Tables.{ballot_table, vote_table, learned_table, fact_table}
use Rattle.acceptor_store_parts.specs.Stored.{AreTablesOf, number_row, vote_row, learned_row, fact_row, three}

-- the bytes that stand for an owner: the node's number, and how many members there are
abbrev pub owner_bytes : Owner → List ℕ
owner_bytes owner = owner.node ∷ member_count owner.members ∷ []

-- a node that there is
abbrev pub IsOwner : Owner → Type 0
IsOwner owner = owner.node < 5

-- a count of transactions, which eight bytes hold
abbrev pub IsCount : ℕ → Type 0
IsCount n = n < 2 ^ 64

-- the bytes that stand for a count, the highest first
abbrev pub count_bytes : ℕ → List ℕ
count_bytes n = to_be_bytes w64 n

-- the rows of the table of facts: row 0 is the owner, and row 1 the count
abbrev pub facts_of : Owner → ℕ → List (ℕ × List ℕ)
facts_of owner n = (0, owner_bytes owner) ∷ (1, count_bytes n) ∷ []

-- the table of facts has these rows and no other
abbrev pub OwnedAt : Owner → ℕ → Trees → Type 0
OwnedAt owner n db = IsCount n × (db 3 ≡ map fact_row (facts_of owner n))

-- it has the owner's row, and some count
abbrev pub OwnedBy : Owner → Trees → Type 0
OwnedBy owner db = (n : ℕ) × OwnedAt owner n db

-- before version 4 the owner's row was the only one
abbrev pub OwnedBefore : Owner → Trees → Type 0
OwnedBefore owner db = db 3 ≡ fact_row (0, owner_bytes owner) ∷ []

-- the table of facts names this owner, in version 4 or 3
abbrev pub NamesOwner : Owner → Trees → Type 0
NamesOwner owner db = OwnedBy owner db ⊎ OwnedBefore owner db

-- records that have an owner are served from version 4, and others from version 2
abbrev pub version_for : Option Owner → Version
version_for None = Second
version_for (Some owner) = Fourth

abbrev pub number_for : Option Owner → ℕ
number_for None = 2
number_for (Some owner) = 4

abbrev pub facts_for : Option Owner → List Table
facts_for None = []
facts_for (Some owner) = fact_table ∷ []

abbrev pub schema_for : Option Owner → Schema
schema_for owner = record { tables = ballot_table ∷ vote_table ∷ learned_table ∷ facts_for owner; indexes = []; views = [] }

abbrev pub IsOwnedBy : Option Owner → Trees → Type 0
IsOwnedBy None db = Unit {0}
IsOwnedBy (Some owner) db = OwnedBy owner db

-- at this count; without an owner there is none
abbrev pub IsOwnedAt : Option Owner → ℕ → Trees → Type 0
IsOwnedAt None n db = Unit {0}
IsOwnedAt (Some owner) n db = OwnedAt owner n db

-- what the next transaction writes as its count: one more, where there is an owner
abbrev pub IsNext : Option Owner → ℕ → Option ℕ → Type 0
IsNext None n next = next ≡ None
IsNext (Some owner) n next = next ≡ Some (n + 1)

-- the tables that records are served from
pub record AreTablesFor (owner : Option Owner) (db : Trees) (c : Content) : Type 0 where
  pub numbers : db 0 ≡ map (λ e. number_row e.0 e.1) (three (number_for owner) c.tried c.row)
  pub votes_are : db 1 ≡ map vote_row c.votes
  pub learned_are : db 2 ≡ map learned_row c.learned
  pub sound : IsSound c
  pub owned : IsOwnedBy owner db

-- the same at this count: content and count stand in the same trees
abbrev pub AreTablesAt : Option Owner → ℕ → Trees → Content → Type 0
AreTablesAt owner n db c = AreTablesFor owner db c × IsOwnedAt owner n db

-- tables of version 3, which have an owner and no count
abbrev pub AreUncounted : Owner → Trees → Content → Type 0
AreUncounted owner db c = AreTablesOf Third db c × OwnedBefore owner db

-- this owner's tables, of version 4 or 3
abbrev pub AreOwnedBy : Owner → Trees → Content → Type 0
AreOwnedBy owner db c = AreTablesFor (Some owner) db c ⊎ AreUncounted owner db c
