use Rattle.std.proofs.Common.{◌≡◌, ◌++◌, take, flat_map}
use Rattle.map_text.specs.Lines.{waiting_line}
use Rattle.map_text.proofs.lines.put_all_waiting.Given as goal

abbrev pub invariant-loop-element : goal.invariant-loop-element
invariant-loop-element l = l.out.items ≡ l.initial.out.items ++ flat_map waiting_line (take l.element-index l.elements)
