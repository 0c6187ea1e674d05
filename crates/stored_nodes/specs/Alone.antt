-- What a database file holds by itself, and files without tables.
use Rattle.std.specs.Prelude.{◌≡◌, ◌⊎◌, Bool, true, IsTrue}
use Rattle.acceptor.specs.Content.{Content}
use Rattle.acceptor_store_parts.specs.declared.owner.Owner.{Owner}
use Rattle.acceptor_store_parts.specs.Owned.{AreOwnedBy}
use Rattle.acceptor_store_parts.specs.Tables.{blank_schema}
use Rattle.log_ties.specs.Ties.{IsUncopied}
use Rattle.sqlite.specs.Closing.{HoldsAlone, IsCopied}
use Rattle.sqlite.specs.Effect.{IsDatabase}
use Rattle.sqlite.specs.Files.{Finds, HoldsDatabase, image_of}
use Rattle.sqlite.specs.Held.{Held}
use Rattle.sqlite.specs.Tree.{Trees}
use Rattle.sqlite_disk.specs.declared.Disk as disk
use Rattle.sqlite_disk.specs.declared.Files.{Files}
use Rattle.sqlite_store.specs.declared.store.FileStore.{FileStore}
use Rattle.sqlite_wal.specs.Files.{outcomes}
use Rattle.sqlite_wal.specs.Recovery.{Image}
use Rattle.stored_nodes.specs.Kept.{IsFoundFor}

-- the database file holds this owner's tables of the content, with its log and without it, as it is and as a crash
-- leaves it
pub record IsAloneIn {D : Type 0} (g : disk.Ghosts D) (files : Files D) (owner : Owner) (c : Content) : Type 0 where
  pub tables : Trees
  pub are : AreOwnedBy owner tables c
  pub seen : HoldsAlone (image_of g files) tables
  pub left : (image : Image) → outcomes g files.log files.db image → HoldsAlone image tables

-- it does so in some files
abbrev pub IsAlone : {D : Type 0} → disk.Ghosts D → Owner → Content → Type 0
IsAlone {D} g owner c = (last : Files D) × IsAloneIn g last owner c

-- a database that the files hold has no tables
abbrev pub IsBlankIn : {D : Type 0} → disk.Ghosts D → Files D → Type 0
IsBlankIn g files = (db : Trees) → HoldsDatabase (image_of g files) db → IsDatabase (record { schema = blank_schema; trees = db })

-- the database may have all that was written in its log alone: it is new, or no checkpoint was made yet
abbrev pub IsInLog : Bool → Image → Type 0
IsInLog is_new image = (is_new ≡ true) ⊎ IsUncopied image.log

-- An owner that is new or goes on begins over this content: it is found in the files as the owner's. Where all of it may
-- be in the log, the database file holds it by itself then. The files of a new one had no tables.
pub record IsBegunIn {D : Type 0} (g : disk.Ghosts D) (files : Files D) (owner : Owner) (is_new : Bool) (c : Content) : Type 0 where
  pub found : IsFoundFor g files owner is_new c
  pub alone : IsInLog is_new (image_of g files) → IsAlone g owner c
  pub blank : IsTrue is_new → IsBlankIn g files

-- a connection was opened over files whose database file holds by itself what another had committed
pub record ReadsCopy {D : Type 0} {g : disk.Ghosts D} (old new : Held (FileStore D g)) : Type 0 where
  pub last : Files D
  pub copied : IsCopied old last
  pub found : Finds last new
