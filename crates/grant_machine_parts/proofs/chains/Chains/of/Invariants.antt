use Rattle.std.proofs.Common.{◌≤◌, length}
use Rattle.grant_machine_parts.specs.Chains.{AreFrom}
use Rattle.grant_machine_parts.proofs.chains.Chains.of.Given as goal

-- the chains from i on
abbrev pub invariant-loop-i : goal.invariant-loop-i
invariant-loop-i l = record {
  most : l.i ≤ length l.ranked;
  chained : AreFrom l.firsts l.nexts l.ranked l.i;
}

abbrev pub decreases-loop-i : goal.decreases-loop-i
decreases-loop-i l = l.i
