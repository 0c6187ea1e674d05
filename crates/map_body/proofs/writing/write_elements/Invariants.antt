use Rattle.std.proofs.Common.{◌≡◌, ◌+◌, ◌*◌, ◌++◌, take}
use Rattle.std.specs.List.{flat_map, AllByRecursion}
use Rattle.map_body.specs.Rules.{FitsElement}
use Rattle.map_body.specs.Layout.{element_bytes}
use Rattle.map_body.proofs.writing.write_elements.Given as goal

abbrev pub invariant-loop-i : goal.invariant-loop-i
invariant-loop-i l = record {
  written : take (16 + 4 * l.i) l.out ≡ take 16 l.fn.out ++ flat_map element_bytes (take l.i l.elements);
  fit : AllByRecursion FitsElement (take l.i l.elements);
}
