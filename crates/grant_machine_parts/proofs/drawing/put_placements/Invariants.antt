use Rattle.std.proofs.Common.{◌≡◌, ◌-◌, ◌≤◌, ◌++◌}
use Rattle.std.specs.List.{filter_map, range_with_len}
use Rattle.grant_machine_parts.specs.Drawing.{begins_at}
use Rattle.grant_machine_parts.proofs.drawing.put_placements.Given as goal

-- the elements that begin before x
abbrev pub invariant-loop-x : goal.invariant-loop-x
invariant-loop-x l = record {
  least : l.from ≤ l.x;
  most : l.x ≤ l.to;
  put : l.elements.items ≡ l.initial.elements.items ++ filter_map (begins_at l.placements) (range_with_len l.from (l.x - l.from));
}

abbrev pub decreases-loop-x : goal.decreases-loop-x
decreases-loop-x l = l.to - l.x
