use Rattle.std.proofs.Common.{◌≡◌, ◌++◌, take, flat_map}
use Rattle.map_text.specs.Lines.{interval_line}
use Rattle.map_text.proofs.lines.put_intervals.Given as goal

abbrev pub invariant-loop-interval : goal.invariant-loop-interval
invariant-loop-interval l = l.out.items ≡ l.initial.out.items ++ flat_map (interval_line l.len) (take l.interval-index l.intervals)
