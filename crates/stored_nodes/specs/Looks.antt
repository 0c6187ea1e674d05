-- What an open of a database file and its log reads, and what is so of files of each state.
use Rattle.std.specs.Prelude.{◌≡◌, ◌≢◌, ◌⊎◌, ◌<◌, ℕ}
use Rattle.acceptor.specs.Content.{Content, no_content}
use Rattle.acceptor_store_parts.specs.Foreign.{IsForeign, IsForeignOwned, IsUnowned}
use Rattle.acceptor_store_parts.specs.Owned.{NamesOwner}
use Rattle.acceptor_store_parts.specs.Stored.{AreTablesOf, IsOfNode}
use Rattle.acceptor_store_parts.specs.Tables.{blank_schema, schema_of}
use Rattle.acceptor_store_parts.specs.declared.Version.{Version}
use Rattle.acceptor_store_parts.specs.declared.owner.Owner.{Owner}
use Rattle.ballots.specs.Members.{member_count}
use Rattle.sqlite.specs.Effect.{Database, IsDatabase}
use Rattle.sqlite.specs.Files.{AreFoundIn, HoldsDatabase, IsNothing}
use Rattle.sqlite.specs.Schema.{Schema}
use Rattle.sqlite.specs.Tree.{Trees}
use Rattle.sqlite_disk.specs.Disk.{MoreFaults}
use Rattle.sqlite_disk.specs.Memory.{memory_bytes}
use Rattle.sqlite_disk.specs.declared.Files.{Files}
use Rattle.sqlite_disk.specs.declared.memory.Memory.{Memory}
use Rattle.sqlite_trees.specs.View.{IsClean}
use Rattle.sqlite_trees.specs.declared.store.Store.{Ghosts}
use Rattle.sqlite_wal.specs.Recovery.{Image}
use Rattle.stored_nodes.specs.Kept.{IsOwnedAs}
use Rattle.stored_nodes.specs.declared.states.FilesState.{FilesState}
use Rattle.stored_nodes.specs.declared.states.FilesState.TheVariants.{Fresh, Begun, Used, Unowned, Foreign, Locked}
use Rattle.stored_nodes.specs.declared.states.FilesState.TheVariants.{OtherNode, Lost, Unusable}

-- each store's disk gave no wrong answer, as of stores in memory
abbrev pub AlwaysClean : {S : Type 0} → Ghosts S → Type 0
AlwaysClean {S} g = (store : S) → IsClean (g.view store)

-- the bytes of two files in memory
abbrev pub image_in : Files Memory → Image
image_in copy = record { log = memory_bytes copy.log; db = memory_bytes copy.db }

-- an open of these bytes reads this database: where they hold one, it is that
pub record IsRead (image : Image) (d : Database) : Type 0 where
  pub sound : IsDatabase d
  pub found : AreFoundIn image d.trees
  pub holds : (db : Trees) → HoldsDatabase image db → d.trees ≡ db

-- the bytes are no database's, nor those of a new one
abbrev pub IsNoDatabase : Image → Type 0
IsNoDatabase image = (((db : Trees) × HoldsDatabase image db) ⊎ IsNothing image) → ⊥

-- there are tables, an index or a view, and they aren't those of any version
abbrev pub IsOtherSchema : Schema → Type 0
IsOtherSchema s = (s ≢ blank_schema) × ((version : Version) → s ≡ schema_of version → ⊥)

-- it has the tables that a node without an owner made, and this content, which such a node wrote
abbrev pub IsUnownedAs : Database → Content → Type 0
IsUnownedAs d c = IsUnowned d.schema × ((version : Version) × (d.schema ≡ schema_of version) × AreTablesOf version d.trees c × IsOfNode c)

-- no node wrote it: not its schema, not its rows as an owner's, or not those of tables without an owner
abbrev pub IsNoNodes : Database → Type 0
IsNoNodes d = IsOtherSchema d.schema ⊎ (IsForeignOwned d.schema d.trees ⊎ (IsUnowned d.schema × IsForeign d.schema d.trees))

-- it names this owner, which isn't the one that is wanted
abbrev pub NamesOther : Owner → Database → Owner → Type 0
NamesOther wanted d other = NamesOwner other d.trees × ((other.node ≢ wanted.node) ⊎ (other.members ≢ wanted.members))

-- what is so of a database that an open for this owner tells a state of
abbrev pub IsToldOf : Owner → Database → FilesState → Type 0
IsToldOf wanted d Fresh = (d.schema ≡ blank_schema) ⊎ IsUnownedAs d no_content
IsToldOf wanted d Begun = IsOwnedAs wanted d.trees no_content
IsToldOf wanted d Used = (c : Content) × (c ≢ no_content) × IsOwnedAs wanted d.trees c
IsToldOf wanted d Unowned = (c : Content) × (c ≢ no_content) × IsUnownedAs d c
IsToldOf wanted d Foreign = IsNoNodes d
IsToldOf wanted d (OtherNode other) = NamesOther wanted d other
IsToldOf wanted d Locked = ⊥
IsToldOf wanted d (Lost loss) = ⊥
IsToldOf wanted d (Unusable why) = ⊥

-- so of one that an open of these bytes reads; where they are no database's they are foreign
abbrev pub IsToldIn : Image → Owner → FilesState → Type 0
IsToldIn image wanted state = (IsNoDatabase image × (state ≡ Foreign)) ⊎ ((d : Database) × IsRead image d × IsToldOf wanted d state)

-- the same, or a call of the disk failed
abbrev pub IsSeenAs : Image → Owner → ℕ → ℕ → FilesState → Type 0
IsSeenAs image wanted old new (Unusable why) = MoreFaults old new
IsSeenAs image wanted old new state = IsToldIn image wanted state

-- the owner is this node, as one of the members that it is among
abbrev pub IsMember : ℕ → Owner → Type 0
IsMember id owner = (owner.node ≡ id) × (id < member_count owner.members)

-- an open of these bytes reads this owner's name, and a database that they hold isn't the node's
abbrev pub IsOthers : Image → ℕ → Owner → Type 0
IsOthers image id other = ((d : Database) × IsRead image d × NamesOwner other d.trees) × ((db : Trees) → HoldsDatabase image db → IsMember id other → ⊥)
