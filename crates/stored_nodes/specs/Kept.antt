-- What files keep of a node that owns them, and of a node without an owner.
use Rattle.std.specs.Prelude.{◌≡◌, ◌⊎◌, Bool, true, IsTrue}
use Rattle.acceptor.specs.Content.{Content, no_content}
use Rattle.acceptor_store_parts.specs.declared.owner.Owner.{Owner}
use Rattle.acceptor_store_parts.specs.Owned.{AreOwnedBy}
use Rattle.acceptor_store_parts.specs.Stored.{AreTablesOf, IsOfNode}
use Rattle.acceptor_store_parts.specs.Tables.{blank_schema}
use Rattle.acceptor_store_parts.specs.declared.Version.{Version}
use Rattle.sqlite.specs.Effect.{IsDatabase}
use Rattle.sqlite.specs.Files.{HoldsDatabase, image_of}
use Rattle.sqlite.specs.Held.{AreDatabases}
use Rattle.sqlite.specs.Tree.{Trees}
use Rattle.sqlite_disk.specs.declared.Disk as disk
use Rattle.sqlite_disk.specs.declared.Files.{Files}
use Rattle.sqlite_store.specs.declared.store.FileStore.{FileStore}
use Rattle.sqlite_store.specs.FileStore.{recovers, view, state as store_state}
use Rattle.sqlite_wal.specs.Recovery.{Image}

-- the trees are this owner's tables of the content, which a node wrote, of version 4 or 3
abbrev pub IsOwnedAs : Owner → Trees → Content → Type 0
IsOwnedAs owner db c = AreOwnedBy owner db c × IsOfNode c

-- the same, or they are those of a database without tables, where it may be new and the content is none
abbrev pub IsKeptFor : Owner → Bool → Trees → Content → Type 0
IsKeptFor owner is_new db c =
    IsOwnedAs owner db c ⊎ (IsDatabase (record { schema = blank_schema; trees = db }) × (is_new ≡ true) × (c ≡ no_content))

-- a database that the files hold is this owner's with the content, or may be new and has none
abbrev pub IsOwnedIn : {D : Type 0} → disk.Ghosts D → Files D → Owner → Bool → Content → Type 0
IsOwnedIn g files owner is_new c = (db : Trees) → HoldsDatabase (image_of g files) db → IsKeptFor owner is_new db c

-- what a crash may leave of a store that a connection gave back
pub record MightLeave {D : Type 0} {g : disk.Ghosts D} (it : FileStore D g) (image : Image) : Type 0 where
  pub numbered : IsTrue (view it).is_numbered
  pub sound : AreDatabases (recovers it)
  pub left : (store_state it).may_leave image

-- the content is in the files as this owner's, and where a store might have left them, it is one of those that this
-- store might leave
abbrev pub IsFoundFor : {D : Type 0} → (g : disk.Ghosts D) → Files D → Owner → Bool → Content → Type 0
IsFoundFor {D} g files owner is_new c =
    IsOwnedIn g files owner is_new c
    × ((it : FileStore D g) → MightLeave it (image_of g files) → ∥ ((db : Trees) × recovers it db × IsKeptFor owner is_new db c) ∥₁)

-- the trees are those of the content in one of the versions, or of a database without tables, and the content is none
abbrev pub IsKeptIn : Trees → Content → Type 0
IsKeptIn db c = ((version : Version) × AreTablesOf version db c) ⊎ (IsDatabase (record { schema = blank_schema; trees = db }) × (c ≡ no_content))

-- a database that the files hold has the content, or it has no tables and the content is none
abbrev pub IsIn : {D : Type 0} → disk.Ghosts D → Files D → Content → Type 0
IsIn g files c = (db : Trees) → HoldsDatabase (image_of g files) db → IsKeptIn db c

-- the content is in one of the databases that the store might leave
abbrev pub IsLeftBy : {D : Type 0} {g : disk.Ghosts D} → FileStore D g → Content → Type 0
IsLeftBy it c = ∥ ((db : Trees) × recovers it db × IsKeptIn db c) ∥₁

-- the content is in the files, and where a store might have left them, it is one of those that this store might leave
abbrev pub IsFoundIn : {D : Type 0} → (g : disk.Ghosts D) → Files D → Content → Type 0
IsFoundIn {D} g files c = IsIn g files c × ((it : FileStore D g) → MightLeave it (image_of g files) → IsLeftBy it c)
