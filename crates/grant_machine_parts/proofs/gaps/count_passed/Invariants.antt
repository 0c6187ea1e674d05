use Rattle.std.proofs.Common.{◌-◌, ◌≤◌, length}
use Rattle.grant_machine_parts.specs.Gaps.{HasPassed}
use Rattle.grant_machine_parts.proofs.gaps.count_passed.Given as goal

-- the gaps before low end by x
abbrev pub invariant-loop-low : goal.invariant-loop-low
invariant-loop-low l = record {
  order : l.low ≤ l.high;
  most : l.high ≤ length l.gaps;
  passed : HasPassed l.gaps l.low l.x;
}

abbrev pub decreases-loop-low : goal.decreases-loop-low
decreases-loop-low l = l.high - l.low
