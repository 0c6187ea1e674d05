-- How a host over a folder ended, and what is told of it.
use Rattle.std.specs.Prelude.{◌≡◌, ℕ, Bool, false, Result, Ok, Err}
use Rattle.node_service.specs.declared.batches.BatchedEnd.{BatchedEnd}
use Rattle.node_service.specs.declared.batches.BatchedEnd.TheVariants as ends
use Rattle.upsched_ends.specs.declared.fault.Fault.{Fault}
use Rattle.upsched_ends.specs.declared.status.Status.{Status}
use Rattle.upsched_ends.specs.declared.status.Status.TheVariants.{Done, Faulted}
use Rattle.upsched_node.specs.Ends.{IsOfInput, write_fault}
use Rattle.upsched_stored_host.specs.declared.stopped.Stopped.{Stopped}
use Rattle.upsched_stored_host.specs.declared.stopped.Stopped.TheVariants.{Crashed, Ended, Unstarted}

-- nothing, or why it ended before its input did, with this of a crash
abbrev pub Told : Type 0 → Type 0
Told C = Result (Unit {0}) (Stopped C)

-- so the end of lines is told: nothing where there are no more. Where a node is down, its epoch is told, and this of it
abbrev pub TellsEnd : {C : Type 0} → (ℕ → C → Type 0) → BatchedEnd → Told C → Type 0
TellsEnd Down ends.Input told = told ≡ Ok tt
TellsEnd {C} Down ends.Crashed told = (e : ℕ) × (of : C) × Down e of × (told ≡ Err (Crashed e of))
TellsEnd {C} Down ends.Uncommitted told = (e : ℕ) × (of : C) × Down e of × (told ≡ Err (Crashed e of))
TellsEnd Down ends.Unreadable told = (fault : Fault) × IsOfInput fault × (told ≡ Err (Ended fault))
TellsEnd Down ends.Spent told = (fault : Fault) × IsOfInput fault × (told ≡ Err (Ended fault))
TellsEnd Down (ends.Unwritten why) told = told ≡ Err (Ended (write_fault why))

-- a node is down where lines ended for that
abbrev pub IsEndOf : BatchedEnd → Bool → Type 0
IsEndOf ends.Crashed up = up ≡ false
IsEndOf ends.Uncommitted up = up ≡ false
IsEndOf other up = Unit {0}

-- the same is told with a cause in place of each node that is down, as that node tells it
abbrev pub TellsCauses : {N C : Type 0} → (N → C → Type 0) → Told N → Told C → Type 0
TellsCauses Tells (Ok done) told = told ≡ Ok done
TellsCauses Tells (Err (Unstarted fault)) told = told ≡ Err (Unstarted fault)
TellsCauses {N} {C} Tells (Err (Crashed e node)) told = (cause : C) × Tells node cause × (told ≡ Err (Crashed e cause))
TellsCauses Tells (Err (Ended fault)) told = told ≡ Err (Ended fault)

-- the status of the program then
abbrev pub status_of : {C : Type 0} → Told C → Status
status_of (Ok done) = Done
status_of (Err why) = Faulted
