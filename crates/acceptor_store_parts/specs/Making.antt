-- What a transaction makes of the tables that are there.
use Rattle.std.specs.Prelude.{◌≡◌, ◌≢◌, ℕ, IsTrue, Option, Some, None}
use Rattle.acceptor.specs.Content.{Content, no_content}
use Rattle.sqlite.specs.Effect.{Database}
use Rattle.sqlite.specs.State.{State}
use Rattle.sqlite.specs.Tree.{Trees}
use Rattle.acceptor_store_parts.specs.declared.making.Making.{Making}
use Rattle.acceptor_store_parts.specs.declared.making.Making.TheVariants.{Tables, OwnedTables, Raised, Owned, Counted}
use Rattle.acceptor_store_parts.specs.declared.Version.TheVariants.{First, Third, Fourth}
use Rattle.acceptor_store_parts.specs.declared.owner.Owner.{Owner}
use Rattle.acceptor_store_parts.specs.Tables.{schema_of, blank_schema}
use Rattle.acceptor_store_parts.specs.Stored.{AreTablesOf}
use Rattle.acceptor_store_parts.specs.Owned.{AreTablesAt, AreTablesFor, AreUncounted, IsCount, NamesOwner, OwnedAt}
use Rattle.acceptor_store_parts.specs.Owned.{IsOwnedAt, schema_for}
use Rattle.acceptor_store_parts.specs.Serves.{ServesAt}

-- a database without tables, which has no content
abbrev pub IsBlank : Database → Content → Type 0
IsBlank d c = (d.schema ≡ blank_schema) × (c ≡ no_content)

-- its tables are those of version 1, and hold the content
abbrev pub HoldsFirst : Database → Content → Type 0
HoldsFirst d c = (d.schema ≡ schema_of First) × AreTablesOf First d.trees c

-- its tables are those for this owner, and hold the content
abbrev pub HoldsFor : Option Owner → Database → Content → Type 0
HoldsFor owner d c = (d.schema ≡ schema_for owner) × AreTablesFor owner d.trees c

-- the same at this count
abbrev pub HoldsAt : Option Owner → ℕ → Database → Content → Type 0
HoldsAt owner n d c = HoldsFor owner d c × IsOwnedAt owner n d.trees

-- its tables are this owner's of version 3, which have no count, and hold the content
abbrev pub HoldsUncounted : Owner → Database → Content → Type 0
HoldsUncounted owner d c = (d.schema ≡ schema_of Third) × AreUncounted owner d.trees c

-- the count of tables that were just made, by the first transaction that is counted
abbrev pub first_count : ℕ
first_count = 1

-- inside a transaction, what was there is made into tables for this owner, with equal content and the first count
abbrev pub Makes : (Database → Content → Type 0) → Option Owner → State → State → Type 0
Makes Was owner old new = IsTrue new.in_transaction × ((c : Content) → Was old.now c → HoldsAt owner first_count new.now c)

-- inside a transaction, tables of facts that name an owner have this count, and all other tables are as they were
abbrev pub PutsCount : ℕ → State → State → Type 0
PutsCount n old new =
    IsTrue new.in_transaction
    × (old.now.schema ≡ schema_of Fourth → (new.now.schema ≡ schema_of Fourth) × ((tree : ℕ) → tree ≢ 3 → new.now.trees tree ≡ old.now.trees tree)
    × ((owner : Owner) → IsCount n → NamesOwner owner old.now.trees → OwnedAt owner n new.now.trees))

-- what is there before
abbrev pub Was : Making → Database → Content → Type 0
Was Tables = IsBlank
Was (OwnedTables owner) = IsBlank
Was Raised = HoldsFirst
Was (Owned owner) = HoldsFor None
Was (Counted owner) = HoldsUncounted owner

-- whose the tables are then
abbrev pub owner_then : Making → Option Owner
owner_then Tables = None
owner_then (OwnedTables owner) = Some owner
owner_then Raised = None
owner_then (Owned owner) = Some owner
owner_then (Counted owner) = Some owner

-- what was there, it serves in the tables that are made, at the first count
abbrev pub IsMade : Making → State → State → Type 0
IsMade making old new = (c : Content) → Was making old.now c → ServesAt (owner_then making) first_count new c

-- the trees are what was there, in the tables that are made
abbrev pub MayBeMade : Making → State → Trees → Type 0
MayBeMade making old db = (c : Content) → Was making old.now c → AreTablesAt (owner_then making) first_count db c
