use Rattle.std.proofs.Common.{◌≡◌, ◌++◌, drop, false, IfSome}
use Rattle.map_body.specs.Intervals.{is_null, intervals}
use Rattle.map_body.proofs.Nulls.{intervals_behind}
use Rattle.map_body.proofs.intervals.intervals_of.Given as goal

-- the intervals so far and those that are left are all, and the element before is no Null
abbrev pub invariant-loop-element : goal.invariant-loop-element
invariant-loop-element l = record {
  told : l.found.items ++ intervals_behind l.last (drop l.element-index l.elements) ≡ intervals l.elements;
  no_null : IfSome l.last (λ e. is_null e ≡ false);
}
