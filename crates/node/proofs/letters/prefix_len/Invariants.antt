use Rattle.std.proofs.Common.{◌-◌}
use Rattle.ballots.specs.Limits.{most_places}
use Rattle.node.specs.Learned.{AreLearned}
use Rattle.node.proofs.letters.prefix_len.Given as goal

-- something stands at each place so far
abbrev pub invariant-loop-len : goal.invariant-loop-len
invariant-loop-len l = AreLearned l.learned.entries l.len

abbrev pub decreases-loop-len : goal.decreases-loop-len
decreases-loop-len l = most_places - l.len
