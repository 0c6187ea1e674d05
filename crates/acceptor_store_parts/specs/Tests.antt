-- What a test of a connection tells, and how an error is told.
use Rattle.std.specs.Prelude.{◌≡◌, ◌⊎◌, Bool, true, false, Option, Some, None, IsSome}
use Rattle.sqlite_disk.specs.Disk.{MoreFaults}
use Rattle.sqlite.specs.State.{State}
use Rattle.sqlite.specs.declared.error.Error.{Error}
use Rattle.sqlite.specs.declared.error.Error.TheVariants.{SqliteFailure}
use Rattle.sqlite.specs.declared.error.ErrorCode.TheVariants as code
use Rattle.acceptor_store_parts.specs.declared.Stop.{Stop}
use Rattle.acceptor_store_parts.specs.declared.Stop.TheVariants.{Memory, Refused, Down}

-- the connection was shut before, or the disk failed or refused meanwhile
abbrev pub IsShutBy : State → State → Type 0
IsShutBy old new = (old.is_open ≡ false) ⊎ MoreFaults old.faults new.faults

-- a query failed for want of memory, by a connection that was shut or a disk that failed, or by its limit of steps
abbrev pub IsFault : State → State → Error → Type 0
IsFault old new e = (e ≡ SqliteFailure code.OutOfMemory) ⊎ (IsShutBy old new ⊎ IsSome old.step_limit)

-- what an error in a text without a statement tells: whether the connection is open, and none for want of memory
abbrev pub tells_open : Error → Option Bool
tells_open (SqliteFailure code.OutOfMemory) = None
tells_open (SqliteFailure code.Closed) = Some false
tells_open (SqliteFailure code.SystemIoFailure) = Some false
tells_open (SqliteFailure code.DatabaseCorrupt) = Some false
tells_open (SqliteFailure code.DiskFull) = Some false
tells_open _ = Some true

-- how an error is told, by whether the connection is open
abbrev pub told_as : Option Bool → Error → Stop
told_as None e = Down
told_as (Some false) e = Down
told_as (Some true) (SqliteFailure code.OutOfMemory) = Memory
told_as (Some true) _ = Refused

-- the error is told by what a test of the connection told
abbrev pub IsTold : State → State → Error → Stop → Type 0
IsTold old new e stop = (is_open : Option Bool) × (stop ≡ told_as is_open e) × (is_open ≡ Some false → IsShutBy old new)
