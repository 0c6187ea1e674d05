-- How a call ended that failed.
use Rattle.std.specs.Prelude.{Bool, true, false}
use Rattle.acceptor_store_parts.specs.declared.Stop.{Stop}
use Rattle.acceptor_store_parts.specs.declared.Stop.TheVariants.{Memory, Refused, Down}

-- the connection is open still
abbrev pub LeavesOpen : Stop → Type 0
LeavesOpen Memory = Unit {0}
LeavesOpen Refused = Unit {0}
LeavesOpen Down = ⊥

-- the same as a Bool
abbrev pub leaves_open : Stop → Bool
leaves_open Memory = true
leaves_open Refused = true
leaves_open Down = false
