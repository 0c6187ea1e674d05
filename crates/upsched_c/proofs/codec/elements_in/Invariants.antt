use Rattle.std.proofs.Common.{◌≡◌, take, map}
use Rattle.upsched_c.specs.Structs.{element_value}
use Rattle.upsched_c.proofs.codec.elements_in.Given as goal

abbrev pub invariant-loop-element : goal.invariant-loop-element
invariant-loop-element l = l.made.items ≡ map element_value (take l.element-index l.elements)
