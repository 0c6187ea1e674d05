-- How a node that serves over files of its own ends.
use Rattle.std.specs.Prelude.{◌≡◌, Result, Ok, Err}
use Rattle.node_service.specs.declared.batches.BatchedEnd.{BatchedEnd}
use Rattle.node_service.specs.declared.batches.BatchedEnd.TheVariants as ends
use Rattle.upsched_ends.specs.declared.fault.Fault.{Fault}
use Rattle.upsched_ends.specs.declared.status.Status.{Status}
use Rattle.upsched_ends.specs.declared.status.Status.TheVariants.{Done, Faulted}
use Rattle.upsched_node.specs.Ends.{IsOfInput, write_fault}
use Rattle.upsched_store.specs.declared.crash.CrashCause.{CrashCause}
use Rattle.upsched_store.specs.declared.stored_node_run.Stopped.{Stopped}
use Rattle.upsched_store.specs.declared.stored_node_run.Stopped.TheVariants.{Crashed, Ended, Foreign, Unstarted}

-- nothing, or why it ended before its input did
abbrev pub Told : Type 0
Told = Result (Unit {0}) Stopped

-- it didn't start
abbrev pub IsUnstarted : Stopped → Type 0
IsUnstarted (Unstarted fault) = Unit {0}
IsUnstarted (Foreign cause) = Unit {0}
IsUnstarted (Crashed cause) = ⊥
IsUnstarted (Ended fault) = ⊥

-- so the end of lines is told: nothing where there are no more. One whose writes weren't stored has crashed too
abbrev pub StopsBy : (CrashCause → Type 0) → BatchedEnd → Told → Type 0
StopsBy Tells ends.Input told = told ≡ Ok tt
StopsBy Tells ends.Crashed told = (cause : CrashCause) × Tells cause × (told ≡ Err (Crashed cause))
StopsBy Tells ends.Uncommitted told = (cause : CrashCause) × Tells cause × (told ≡ Err (Crashed cause))
StopsBy Tells ends.Unreadable told = (fault : Fault) × IsOfInput fault × (told ≡ Err (Ended fault))
StopsBy Tells ends.Spent told = (fault : Fault) × IsOfInput fault × (told ≡ Err (Ended fault))
StopsBy Tells (ends.Unwritten why) told = told ≡ Err (Ended (write_fault why))

-- the status of the program then
abbrev pub status_of : Told → Status
status_of (Ok done) = Done
status_of (Err why) = Faulted
