-- The names of a modem's refusals.
use Rattle.std.specs.Prelude.{ℕ, List, codes}
use Rattle.modem.specs.declared.types.WantFault.{WantFault}
use Rattle.modem.specs.declared.types.WantFault.TheVariants.{NotMine, Waiting, BadSize, OutOfMemory}

-- a refusal of a want
abbrev pub want_fault_name : WantFault → List ℕ
want_fault_name NotMine = codes "NotMine"
want_fault_name Waiting = codes "Waiting"
want_fault_name BadSize = codes "BadSize"
want_fault_name OutOfMemory = codes "OutOfMemory"
