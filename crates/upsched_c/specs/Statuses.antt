-- The numbers that calls answer.
use Rattle.std.specs.Prelude.{◌≡◌, ℕ, ◌+◌, ℤ, pos}
use Rattle.map_body.specs.declared.fault.MapFault.{MapFault}
use Rattle.map_body.specs.declared.fault.MapFault.TheVariants.{Short, Trailing, Expansion, OutOfOrder, NoNull}
use Rattle.map_body.specs.declared.fault.MapFault.TheVariants.{OutOfMemory, TooMany}
use Rattle.map_body.specs.Faults as maps
use Rattle.modem.specs.Wants as wants
use Rattle.row_bytes.specs.Faults as rows
use Rattle.upsched_c.specs.declared.status.Status.{Status}
use Rattle.upsched_c.specs.declared.status.Status.TheVariants as statuses

-- the number of a status; a fault of a MAP body, of tables or of a want is its own number in a hundred of its own
abbrev pub status_number : Status → ℕ
status_number statuses.Done = 0
status_number statuses.Closed = 1
status_number statuses.OtherKind = 2
status_number statuses.Open = 3
status_number statuses.NoRoom = 4
status_number statuses.BadField = 5
status_number statuses.OutOfMemory = 6
status_number statuses.Absent = 7
status_number (statuses.Map fault) = 100 + maps.map_fault_number fault
status_number (statuses.Rows fault) = 200 + rows.fault_number fault
status_number (statuses.Want fault) = 300 + wants.number_of_fault fault
status_number statuses.TimeBack = 401

-- the element that a fault of a MAP body is of, 0 where it is of none
abbrev pub place_of : MapFault → ℕ
place_of Short = 0
place_of Trailing = 0
place_of (Expansion i) = i
place_of (OutOfOrder i) = i
place_of NoNull = 0
place_of OutOfMemory = 0
place_of TooMany = 0

-- the number that is answered is that of a status of which this holds
abbrev pub Answers : ℤ → (Status → Type 0) → Type 0
Answers number Ends = (status : Status) × (number ≡ pos (status_number status)) × Ends status
