-- The names of the files of a host's folder (this project's format).
use Rattle.std.specs.Prelude.{◌≡◌, ◌<◌, ◌≤◌, ◌^◌, ◌++◌, ℕ, List, codes, decimal}
use Rattle.stored_hosts.specs.declared.names.FileKind.{FileKind}
use Rattle.stored_hosts.specs.declared.names.FileKind.TheVariants.{Database, Log, State, Part}
use Rattle.stored_hosts.specs.declared.names.HostFile.{HostFile}

-- what stands behind the epoch
unfoldable pub suffix : FileKind → List ℕ
suffix Database = codes ".db"
suffix Log = codes ".db-wal"
suffix State = codes ".state"
suffix Part = codes ".state.part"

-- the epoch in decimal digits, without a zero too many, and what the file is for
abbrev pub name_text : HostFile → List ℕ
name_text file = decimal file.epoch ++ suffix file.kind

-- a name is that of this file, of an epoch from 1 on
pub record IsName (name : List ℕ) (file : HostFile) : Type 0 where
  pub is : name ≡ name_text file
  pub counted : 1 ≤ file.epoch
  pub fits : file.epoch < 2 ^ 64
