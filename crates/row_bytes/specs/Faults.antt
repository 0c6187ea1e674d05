-- The numbers of faults.
use Rattle.std.specs.Prelude.{ℕ}
use Rattle.row_bytes.specs.declared.fault.RowsFault.{RowsFault}
use Rattle.row_bytes.specs.declared.fault.RowsFault.TheVariants.{Short, Trailing, NoChannel, NoFlow, NoRequest, NotFirm}
use Rattle.row_bytes.specs.declared.fault.RowsFault.TheVariants.{OutOfMemory}

abbrev pub fault_number : RowsFault → ℕ
fault_number Short = 1
fault_number Trailing = 2
fault_number NoChannel = 3
fault_number NoFlow = 4
fault_number NoRequest = 5
fault_number (NotFirm ch) = 6
fault_number OutOfMemory = 7
