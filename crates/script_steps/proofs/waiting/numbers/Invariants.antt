use Rattle.std.proofs.Common.{◌≡◌, ◌-◌, ◌≤◌, max}
use Rattle.std.specs.List.{range_with_len}
use Rattle.script_steps.proofs.waiting.numbers.Given as goal

abbrev pub invariant-loop-i : goal.invariant-loop-i
invariant-loop-i l = record {
  from : l.from ≤ l.i;
  within : l.i ≤ max l.from l.to;
  read : l.numbers.items ≡ range_with_len l.from (l.i - l.from);
}
