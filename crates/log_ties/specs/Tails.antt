-- What the search for the end of a log goes by.
use Rattle.std.specs.Prelude.{◌≡◌, ℕ, ◌<◌, ◌≤◌, List, length}
use Rattle.sqlite_wal.specs.Format.{IsHeader, IsFrame, commit_size}
use Rattle.sqlite_wal.specs.PageSize.{IsPageSize}
use Rattle.sqlite_wal.specs.Recovery.{Image, frame, header, Passes, Replays}
use Rattle.log_ties.specs.Ties.{IsRead, size_of}

-- these are the log's header, page size and length, and SQLite reads the header
pub record IsShapeOf (log head : List ℕ) (size n : ℕ) : Type 0 where
  pub same : head ≡ header log
  pub reads : IsHeader size (header log)
  pub len : n ≡ length log
  pub long : 32 ≤ length log

-- this is the header of the log, and its length
abbrev pub HasHeaderOf : List ℕ → List ℕ → ℕ → Type 0
HasHeaderOf log head n = (head ≡ header log) × (n ≡ length log)

abbrev pub image_of : List ℕ → List ℕ → Image
image_of log db = record { log = log; db = db }

-- the frame passes behind this checksum, and doesn't commit
abbrev pub IsQuiet : List ℕ → ℕ × ℕ → List ℕ → Type 0
IsQuiet head before frame = IsFrame head before frame × (commit_size frame ≡ 0)

-- frame i is in the log, passes, and doesn't commit
abbrev pub PassesQuietly : ℕ → List ℕ → ℕ → Type 0
PassesQuietly size log i = Passes size log i × (commit_size (frame size log i) ≡ 0)

-- behind the first k frames all before frame j pass and don't commit, and frame j isn't so
pub record Reaches (size : ℕ) (log : List ℕ) (k j : ℕ) : Type 0 where
  pub from : k ≤ j
  pub quiet : (i : ℕ) → k ≤ i → i < j → PassesQuietly size log i
  pub stops : ¬ PassesQuietly size log j

-- recovery takes no number of frames of a log that SQLite reads
abbrev pub NoneReplay : List ℕ → Type 0
NoneReplay log = IsRead log → (k : ℕ) → ¬ Replays (size_of log) log k

-- SQLite reads the log, of which this is the shape, and recovery takes k of its frames
pub record IsFoundIn (log head : List ℕ) (size n k : ℕ) : Type 0 where
  pub shape : IsShapeOf log head size n
  pub sized : IsPageSize size
  pub named : size ≡ size_of log
  pub taken : Replays size log k
