use Rattle.std.proofs.Common.{◌≡◌, ◌++◌, ◌*◌, ◌-◌, length, List}
use Rattle.std.specs.List.{flat_map, AllByRecursion}
use Rattle.map_body.specs.declared.element.Element.{Element}
use Rattle.map_body.specs.Rules.{FitsElement}
use Rattle.map_body.specs.Layout.{element_bytes}
use Rattle.map_body.specs.Looking.{Saw}
use Rattle.map_body.proofs.judging.look_at_all.Given as goal

-- the elements so far, and what was seen of them
abbrev pub invariant-loop-i : goal.invariant-loop-i
invariant-loop-i l =
    (es : List Element) × (l.bytes ≡ flat_map element_bytes es ++ l.rest) × (length es ≡ l.i) × (length l.rest ≡ 4 * (l.count - l.i)) × AllByRecursion FitsElement es × Saw es l.seen
