-- What is told of files that lost something.
use Rattle.std.specs.Prelude.{◌≡◌, ◌≢◌, ◌⊎◌, ◌<◌, ℕ, IsSomeAnd, Option}
use Rattle.log_ties.specs.Ties.{IsLost, RefusesTie}
use Rattle.log_ties.specs.declared.tie.Loss.{Loss}
use Rattle.sqlite_disk.specs.Disk.{MoreFaults}
use Rattle.sqlite_disk.specs.declared.Disk as disk
use Rattle.sqlite_wal.specs.Reads.{AreClean}
use Rattle.sqlite_wal.specs.Recovery.{Image}
use Rattle.sqlite_wal.specs.declared.error.Error.TheVariants.{Full}
use Rattle.stored_nodes.specs.Tableless.{IsLostByTables, ShowsByTables}
use Rattle.stored_nodes.specs.declared.start.FileFault.{FileFault}
use Rattle.stored_nodes.specs.declared.start.StartFault.{StartFault}
use Rattle.stored_nodes.specs.declared.start.StartFault.TheVariants.{NoFile, Unusable, Lost, InUse, Unopened, NotFresh}
use Rattle.stored_nodes.specs.declared.start.StartFault.TheVariants.{Unread, OutOfMemory}

-- the disk gives no wrong answer
abbrev pub NeverLies : {D : Type 0} → disk.Ghosts D → Type 0
NeverLies {D} g = (log db : D) → AreClean g log db

-- the fault is this loss, or why it isn't known: want of memory, or a read
abbrev pub TellsLoss : Loss → StartFault → Type 0
TellsLoss loss fault = (fault ≡ Lost loss) ⊎ ((fault ≡ OutOfMemory) ⊎ ((why : FileFault) × (fault ≡ Unusable why)))

-- this was lost, as the bytes of the two files tell it, or their tables
abbrev pub IsLossOf : Image → Loss → Type 0
IsLossOf image loss = IsLost image loss ⊎ (((other : Loss) → ¬ IsLost image other) × IsLostByTables image loss)

-- the same, as one open of each showed their tables
abbrev pub ShowsLoss : Image → Loss → Type 0
ShowsLoss image loss = IsLost image loss ⊎ ShowsByTables image loss

-- the fault tells of no loss
abbrev pub IsNoLoss : StartFault → Type 0
IsNoLoss fault = (loss : Loss) → fault ≢ Lost loss

-- what the fault tells to be lost shows in the two files
abbrev pub TellsShown : Image → StartFault → Type 0
TellsShown image fault = (loss : Loss) → fault ≡ Lost loss → ShowsLoss image loss

-- what a refusal before an open says of the files, and of how many calls of theirs failed before it and with it
abbrev pub IsDueFor : (Loss → Type 0) → Image → ℕ → ℕ → StartFault → Type 0
IsDueFor Why image old new (Lost loss) = Why loss
IsDueFor Why image old new (Unusable why) = MoreFaults old new ⊎ RefusesTie image.log Full
IsDueFor Why image old new OutOfMemory = Unit {0}
IsDueFor Why image old new NoFile = ⊥
IsDueFor Why image old new InUse = ⊥
IsDueFor Why image old new (Unopened fault) = ⊥
IsDueFor Why image old new NotFresh = ⊥
IsDueFor Why image old new (Unread fault) = ⊥

abbrev pub IsDueBefore : Image → ℕ → ℕ → StartFault → Type 0
IsDueBefore image = IsDueFor (ShowsLoss image) image

-- why it isn't known what tables tell: nothing is lost then
abbrev pub IsUnknown : Image → ℕ → ℕ → StartFault → Type 0
IsUnknown = IsDueFor (λ _. ⊥)

-- there is a database of so many bytes
abbrev pub IsLong : Option ℕ → Type 0
IsLong length = IsSomeAnd length (λ n. 1 < n)
