-- The numbers that calls answer.
use Rattle.std.specs.Prelude.{◌≡◌, ℕ, ◌+◌, ℤ, pos}
use Rattle.proposer.specs.Faults.{node_fault_number}
use Rattle.upsched_c_node.specs.declared.status.Status.{Status}
use Rattle.upsched_c_node.specs.declared.status.Status.TheVariants as statuses

-- the number of a status; a fault of a node is its own number in a hundred of its own
abbrev pub status_number : Status → ℕ
status_number statuses.Done = 0
status_number statuses.Closed = 1
status_number statuses.OtherKind = 2
status_number statuses.Open = 3
status_number statuses.NoRoom = 4
status_number statuses.BadField = 5
status_number statuses.OutOfMemory = 6
status_number statuses.Absent = 7
status_number (statuses.Node fault) = 500 + node_fault_number fault

-- the number that is answered is that of a status of which this holds
abbrev pub Answers : ℤ → (Status → Type 0) → Type 0
Answers number Ends = (status : Status) × (number ≡ pos (status_number status)) × Ends status
