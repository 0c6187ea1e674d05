-- The number that stands for the fault of a body.
use Rattle.std.specs.Prelude.{ℕ}
use Rattle.map_body.specs.declared.fault.MapFault.{MapFault}
use Rattle.map_body.specs.declared.fault.MapFault.TheVariants.{Short, Trailing, Expansion, OutOfOrder, NoNull}
use Rattle.map_body.specs.declared.fault.MapFault.TheVariants.{OutOfMemory, TooMany}

abbrev pub map_fault_number : MapFault → ℕ
map_fault_number Short = 1
map_fault_number Trailing = 2
map_fault_number (Expansion i) = 3
map_fault_number (OutOfOrder i) = 4
map_fault_number NoNull = 5
map_fault_number OutOfMemory = 6
map_fault_number TooMany = 7
