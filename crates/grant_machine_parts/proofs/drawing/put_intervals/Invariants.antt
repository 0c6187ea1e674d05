use Rattle.std.proofs.Common.{◌≡◌, ◌≤◌, ◌++◌, drop}
use Rattle.std.specs.List.{filter_map, range_with_len}
use Rattle.grant_machine_parts.specs.Placing.{is_free}
use Rattle.grant_machine_parts.specs.Gaps.{AreGaps}
use Rattle.grant_machine_parts.specs.Drawing.{begins_at}
use Rattle.grant_machine_parts.proofs.Drawn.{BeginsAnew}
use Rattle.grant_machine_parts.proofs.drawing.put_intervals.Given as goal

-- the elements that begin before x, where a gap ends, and the gaps from there on
abbrev pub invariant-loop-gap : goal.invariant-loop-gap
invariant-loop-gap l = record {
  free : AreGaps (is_free l.placements) l.x l.len (drop l.gap-index l.gaps);
  anew : BeginsAnew l.placements l.len l.x;
  within : l.x ≤ l.len;
  put : l.elements.items ≡ l.initial.elements.items ++ filter_map (begins_at l.placements) (range_with_len 0 l.x);
}
