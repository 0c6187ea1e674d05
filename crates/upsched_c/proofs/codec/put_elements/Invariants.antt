use Rattle.std.proofs.Common.{◌≡◌, ◌++◌, take, drop, map}
use Rattle.upsched_c.specs.Structs.{element_value}
use Rattle.upsched_c.proofs.codec.put_elements.Given as goal

-- those so far stand at the front
abbrev pub invariant-loop-i : goal.invariant-loop-i
invariant-loop-i l = map element_value l.elements ≡ take l.i l.found ++ drop l.i (map element_value l.initial.elements)
