-- Databases that no node wrote.
use Rattle.std.specs.Prelude.{◌≡◌, ◌⊎◌, ℕ, List, codes, None, IsSome, slice_get, Some}
use Rattle.acceptor.specs.Content.{Content}
use Rattle.sqlite.specs.Tree.{Trees}
use Rattle.sqlite.specs.Table.{Table}
use Rattle.sqlite.specs.Schema.{Schema}
use Rattle.sqlite_schema.specs.Names.{table_named, column_named}
use Rattle.acceptor_store_parts.specs.declared.Version.{Version}
use Rattle.acceptor_store_parts.specs.declared.Version.TheVariants.{Third}
use Rattle.acceptor_store_parts.specs.declared.owner.Owner.{Owner}
use Rattle.acceptor_store_parts.specs.Tables.{schema_of}
use Rattle.acceptor_store_parts.specs.Stored.{AreTablesOf, IsOfNode}
use Rattle.acceptor_store_parts.specs.Owned.{AreOwnedBy, IsOwner}

-- a table of this name is there, or none is
abbrev pub HasTable : Schema → List ℕ → Type 0
HasTable s name = IsSome (table_named s name)

abbrev pub HasNone : Schema → List ℕ → Type 0
HasNone s name = table_named s name ≡ None

-- only one of the tables of ballots and votes is there, or that of learned values without them
abbrev pub IsPart : Schema → Type 0
IsPart s =
    (HasNone s (codes "ballot") × HasTable s (codes "vote"))
    ⊎ ((HasTable s (codes "ballot") × HasNone s (codes "vote"))
    ⊎ (HasNone s (codes "ballot") × HasNone s (codes "vote") × HasTable s (codes "learned")))

-- the table lacks this column
abbrev pub Lacks : Table → List ℕ → Type 0
Lacks t name = column_named t name ≡ None

-- the table of numbers, that of votes or that of learned values lacks a column
abbrev pub LacksNumbers : Table → Type 0
LacksNumbers t = Lacks t (codes "id") ⊎ Lacks t (codes "number")

abbrev pub LacksVotes : Table → Type 0
LacksVotes t = Lacks t (codes "place") ⊎ (Lacks t (codes "ballot") ⊎ Lacks t (codes "value"))

abbrev pub LacksLearned : Table → Type 0
LacksLearned t = Lacks t (codes "place") ⊎ Lacks t (codes "value")

-- the table of this name is there, and lacks a column
abbrev pub IsThereWithout : Schema → List ℕ → (Table → Type 0) → Type 0
IsThereWithout s name Wants = (at : ℕ) × (t : Table) × (table_named s name ≡ Some at) × (slice_get s.tables at ≡ Some t) × Wants t

-- the schema has only a part of the tables, or one of them lacks a column
abbrev pub IsBroken : Schema → Type 0
IsBroken s =
    IsPart s
    ⊎ (IsThereWithout s (codes "ballot") LacksNumbers
    ⊎ (IsThereWithout s (codes "vote") LacksVotes ⊎ IsThereWithout s (codes "learned") LacksLearned))

-- a table of facts is there, as where the database has an owner
abbrev pub HasFacts : Schema → Type 0
HasFacts s = HasTable s (codes "fact")

-- no node without an owner made the schema
abbrev pub IsForeignSchema : Schema → Type 0
IsForeignSchema s = HasFacts s ⊎ IsBroken s

-- the tables hold no content that a node writes in this version
abbrev pub HoldsNone : Version → Trees → Type 0
HoldsNone version db = (c : Content) → AreTablesOf version db c → IsOfNode c → ⊥

-- no node without an owner wrote it, by its schema, or by its rows where the schema is that of a version
abbrev pub IsForeign : Schema → Trees → Type 0
IsForeign s db = IsForeignSchema s ⊎ ((version : Version) × (s ≡ schema_of version) × HoldsNone version db)

-- the tables of ballots and votes are there, and none of facts: a node without an owner may have made them
abbrev pub IsUnowned : Schema → Type 0
IsUnowned s = HasNone s (codes "fact") × (IsBroken s → ⊥) × HasTable s (codes "ballot")

-- the tables hold no content that a node writes as its owner
abbrev pub HoldsNoneOwned : Trees → Type 0
HoldsNoneOwned db = (owner : Owner) (c : Content) → IsOwner owner → AreOwnedBy owner db c → IsOfNode c → ⊥

-- no node wrote it as its owner: by its schema, or by its rows where the schema is that of versions 3 and 4
abbrev pub IsForeignOwned : Schema → Trees → Type 0
IsForeignOwned s db = IsBroken s ⊎ ((s ≡ schema_of Third) × HoldsNoneOwned db)
