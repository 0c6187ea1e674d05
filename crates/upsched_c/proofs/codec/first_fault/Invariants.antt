use Rattle.std.proofs.Common.{map}
use Rattle.map_body.specs.Looking.{Scanned}
use Rattle.upsched_c.specs.Structs.{element_value}
use Rattle.upsched_c.proofs.codec.first_fault.Given as goal

abbrev pub invariant-loop-i : goal.invariant-loop-i
invariant-loop-i l = Scanned (map element_value l.elements) l.i l.null_seen l.last
