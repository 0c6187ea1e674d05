-- Which files are of two times, by the transactions that their tables count.
use Rattle.std.specs.Prelude.{◌≡◌, ◌≢◌, ◌⊎◌, ℕ, suc, ◌+◌, ◌-◌, ◌<◌, [], Option, Some, None}
use Rattle.acceptor_store_parts.specs.Counts.{HasCount}
use Rattle.acceptor_store_parts.specs.Rowids.{AreShaped}
use Rattle.acceptor_store_parts.specs.Tables.{schema_of}
use Rattle.acceptor_store_parts.specs.declared.Version.TheVariants.{Fourth}
use Rattle.log_ties.specs.Ties.{HasCommits}
use Rattle.log_ties.specs.declared.tie.Loss.{Loss}
use Rattle.log_ties.specs.declared.tie.Loss.TheVariants.{OtherTime, OtherFile}
use Rattle.log_ties.specs.declared.tie.Times.{Times}
use Rattle.sqlite.specs.Effect.{Database}
use Rattle.sqlite.specs.Files.{HoldsDatabase}
use Rattle.sqlite.specs.Tree.{Trees}
use Rattle.sqlite_wal.specs.Recovery.{Image}
use Rattle.stored_nodes.specs.Looks.{IsNoDatabase, IsRead}

-- the database file without its log
abbrev pub alone : Image → Image
alone image = record image { log = [] }

-- the files hold a database, and each that an open of them reads is so
abbrev pub AllRead : Image → (Database → Type 0) → Type 0
AllRead image P = ((db : Trees) × HoldsDatabase image db) × ((d : Database) → IsRead image d → P d)

-- no open of the files reads a database
abbrev pub NoneRead : Image → Type 0
NoneRead image = (d : Database) → ¬ IsRead image d

-- an open of the files reads a database that is so
abbrev pub SomeRead : Image → (Database → Type 0) → Type 0
SomeRead image P = (d : Database) × IsRead image d × P d

-- its rows stand by rowid, where its tables are those of an owner
abbrev pub IsByRowid : Database → Type 0
IsByRowid d = d.schema ≡ schema_of Fourth → AreShaped Fourth d.trees

-- the database has this count, or this is 0 and it has no tables that count
abbrev pub CountsTo : ℕ → Database → Type 0
CountsTo n d = HasCount d n ⊎ ((n ≡ 0) × (d.schema ≢ schema_of Fourth))

-- by its rows it has this count, or this is 0 and it has none
abbrev pub ShowsCount : ℕ → Database → Type 0
ShowsCount n d = IsByRowid d → HasCount d n ⊎ ((n ≡ 0) × ((m : ℕ) → ¬ HasCount d m))

-- this was read as its count
abbrev pub ReadsCount : ℕ → Database → Type 0
ReadsCount n d = ((m : ℕ) → CountsTo m d → n ≡ m) × ShowsCount n d

-- it has counted some transactions
abbrev pub HasCounted : Database → Type 0
HasCounted d = (n : ℕ) × (0 < n) × HasCount d n

abbrev pub ShowsCounted : Database → Type 0
ShowsCounted d = IsByRowid d → HasCounted d

-- so many commits count from first to last, and what the file counts is neither right before these nor among them
abbrev pub AreApart : ℕ → Times → Type 0
AreApart n times = (0 < n) × (times.first ≡ times.last - n + 1) × ((suc times.file < times.first) ⊎ (times.last < times.file))

-- the log has commits that don't go on from what the database file counts by itself, or that can't be read with it
abbrev pub IsOtherTime : Image → Loss → Type 0
IsOtherTime image (OtherTime times) =
    AllRead (alone image) (CountsTo times.file) × AllRead image (CountsTo times.last) × ((n : ℕ) × HasCommits image.log n × AreApart n times)
IsOtherTime image OtherFile =
    AllRead (alone image) HasCounted × NoneRead image × ((n : ℕ) × HasCommits image.log n × (0 < n))
IsOtherTime image other = ⊥

-- the same, as one open of each showed it
abbrev pub ShowsOtherTime : Image → Loss → Type 0
ShowsOtherTime image (OtherTime times) =
    SomeRead (alone image) (ShowsCount times.file) × SomeRead image (ShowsCount times.last) × ((n : ℕ) × HasCommits image.log n × AreApart n times)
ShowsOtherTime image OtherFile =
    SomeRead (alone image) ShowsCounted × IsNoDatabase image × ((n : ℕ) × HasCommits image.log n × (0 < n))
ShowsOtherTime image other = ⊥

-- what was read of the two files: no database, or this as its count
abbrev pub IsReadAs : Image → Option ℕ → Type 0
IsReadAs image None = IsNoDatabase image
IsReadAs image (Some n) = SomeRead image (ReadsCount n)

-- what is told of a log of so many commits, by what the file counts, and what both do where they can be read
abbrev pub AreToldAs : ℕ → ℕ → Option ℕ → Loss → Type 0
AreToldAs n file both (OtherTime times) = (times.file ≡ file) × (both ≡ Some times.last) × AreApart n times
AreToldAs n file both OtherFile = (0 < file) × (both ≡ None)
AreToldAs n file both other = ⊥
