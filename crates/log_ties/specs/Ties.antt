-- What a database file and its log tell of each other before any open. SQLite's log: fileformat2.html, section 4.
use Rattle.std.specs.Prelude.{◌≡◌, ◌≢◌, ◌⊎◌, ℕ, zero, suc, ◌+◌, ◌<◌, ◌≤◌, ◌==◌, if◌then◌else◌, List, length, slice_index}
use Rattle.std.specs.Prelude.{Result, MatchResult}
use Rattle.sqlite_wal.specs.Format.{be32, IsSigned, IsHeader, commit_size}
use Rattle.sqlite_wal.specs.Outcome.{HasCause, OnlyIf}
use Rattle.sqlite_wal.specs.PageSize.{IsPageSize}
use Rattle.sqlite_wal.specs.Recovery.{Image, frame_at, header, frame, IsBegun, IsValid, Replays}
use Rattle.sqlite_wal.specs.declared.error.Error.{Error}
use Rattle.sqlite_wal.specs.declared.error.Error.TheVariants.{Full}
use Rattle.log_ties.specs.declared.tie.Loss.{Loss}
use Rattle.log_ties.specs.declared.tie.Loss.TheVariants.{NoLog, CutAt, Damaged, NoDatabase}
use Rattle.log_ties.specs.declared.tie.Loss.TheVariants.{OtherTime, OtherFile, NoTables}
use Rattle.log_ties.specs.declared.tie.Tie.{Tie}
use Rattle.log_ties.specs.declared.tie.Tie.TheVariants.{New, Begun, Tied, Lost}

-- the page size that the log's header names
abbrev pub size_of : List ℕ → ℕ
size_of log = be32 (header log) 8

-- the log begins with a header whose checksum is right
abbrev pub HasHeader : List ℕ → Type 0
HasHeader log = (32 ≤ length log) × IsSigned (header log)

-- the log begins with a header that SQLite reads
abbrev pub IsRead : List ℕ → Type 0
IsRead log = (32 ≤ length log) × IsPageSize (size_of log) × IsHeader (size_of log) (header log)

-- frame k - 1 is there and doesn't commit
abbrev pub EndsUncommitted : ℕ → List ℕ → ℕ → Type 0
EndsUncommitted size log k = (j : ℕ) × (suc j ≡ k) × (commit_size (frame size log j) ≡ 0)

-- the file goes on at this offset, where a frame begins, and what is left of the frame's salts is as in the header
abbrev pub HasOwnSaltsAt : List ℕ → ℕ → Type 0
HasOwnSaltsAt log at = (at < length log)
    × ((i : ℕ) → i < 8 → at + 8 + i < length log → slice_index log (at + 8 + i) ≡ slice_index (header log) (16 + i))

-- The log ends before frame k does, and all frames before it are valid: the last of them doesn't commit, or frame k is
-- this log's own.
pub record EndsWithin (size : ℕ) (log : List ℕ) (k : ℕ) : Type 0 where
  pub valid : (i : ℕ) → i < k → IsValid size log i
  pub ends : length log < frame_at size (suc k)
  pub broken : EndsUncommitted size log k ⊎ HasOwnSaltsAt log (frame_at size k)

-- the log ends within its header, or within a commit
abbrev pub IsCut : List ℕ → Type 0
IsCut log = ((0 < length log) × (length log < 32)) ⊎ (IsRead log × ((k : ℕ) × EndsWithin (size_of log) log k))

-- the log has no header, and doesn't begin with the 0 of one that is being written
abbrev pub IsDamaged : List ℕ → Type 0
IsDamaged log = (32 ≤ length log) × (¬ IsSigned (header log)) × (slice_index log 0 ≢ 0)

-- no checkpoint was made yet, and nothing is committed: only the making of a database leaves such a log
abbrev pub IsOfMaking : List ℕ → Type 0
IsOfMaking log = IsPageSize (size_of log) × IsBegun (size_of log) log × Replays (size_of log) log 0

-- a database file of a byte at most is none
abbrev pub IsThere : List ℕ → Type 0
IsThere db = 1 < length db

-- neither file has anything: there is no database, and no header in the log but of a making
abbrev pub IsNew : Image → Type 0
IsNew image = (¬ IsThere image.db) × ((¬ HasHeader image.log) ⊎ IsOfMaking image.log)

-- what was lost of the two files, as their bytes alone tell it; of two times and of tables they tell nothing
abbrev pub IsLost : Image → Loss → Type 0
IsLost image NoLog = IsThere image.db × (length image.log ≡ 0)
IsLost image (CutAt n) = IsThere image.db × IsCut image.log × (n ≡ length image.log)
IsLost image Damaged = IsThere image.db × IsDamaged image.log
IsLost image NoDatabase = (¬ IsThere image.db) × HasHeader image.log × (¬ IsOfMaking image.log)
IsLost image (OtherTime times) = ⊥
IsLost image OtherFile = ⊥
IsLost image NoTables = ⊥

-- both are there, and nothing shows that one of them lost anything
pub record AreWhole (image : Image) : Type 0 where
  pub there : IsThere image.db
  pub long : 32 ≤ length image.log
  pub begins : IsSigned (header image.log) ⊎ (slice_index image.log 0 ≡ 0)
  pub uncut : ¬ IsCut image.log

-- how many of the first k frames commit
abbrev pub commits_to : ℕ → List ℕ → ℕ → ℕ
commits_to size log zero = 0
commits_to size log (suc i) = commits_to size log i + (if commit_size (frame size log i) == 0 then 0 else 1)

-- SQLite reads the log, and so many of the frames that recovery takes commit
abbrev pub HasCommits : List ℕ → ℕ → Type 0
HasCommits log n = IsRead log × ((k : ℕ) × Replays (size_of log) log k × (n ≡ commits_to (size_of log) log k))

-- recovery takes a commit of the log
abbrev pub HasCommit : List ℕ → Type 0
HasCommit log = (n : ℕ) × (0 < n) × HasCommits log n

-- Only behind the commit of a database's tables the log is so: its header isn't of a making, and counts a checkpoint
-- behind the first, or there is a commit. An open of a making that was stopped leaves one that counts 0, without commits.
abbrev pub IsBehindTables : List ℕ → Type 0
IsBehindTables log = HasHeader log × (be32 (header log) 12 ≢ 0xffff_ffff) × ((0 < be32 (header log) 12) ⊎ HasCommit log)

-- the log's header says that no checkpoint was made yet: all that was written stands in the log alone
abbrev pub IsUncopied : List ℕ → Type 0
IsUncopied log = IsSigned (header log) × (be32 (header log) 12 ≡ 0xffff_ffff)

-- what is told of the files is so
abbrev pub IsToldOf : Image → Tie → Type 0
IsToldOf image New = IsNew image
IsToldOf image Begun = AreWhole image × IsUncopied image.log
IsToldOf image Tied = AreWhole image × (¬ IsUncopied image.log)
IsToldOf image (Lost loss) = IsLost image loss

-- it fails, if the disk is still clean, only where a call of the disk failed, for want of memory, or as it refuses
abbrev pub FailsOnlyFor : {T : Type 0} → Result T Error → Type 0 → ℕ → ℕ → (Error → Type 0) → Type 0
FailsOnlyFor result Clean old new Refuses = MatchResult result (λ _. old ≤ new) (λ e. (Clean → HasCause old new Refuses e) × (old ≤ new))

-- the one refusal: 32 bits don't number the frames
abbrev pub RefusesTie : List ℕ → Error → Type 0
RefusesTie log e = OnlyIf Full (frame_at (size_of log) 0xffff_fffe ≤ length log) e
