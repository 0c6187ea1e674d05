use Rattle.std.proofs.Common.{◌≤◌}
use Rattle.upsched_live.proofs.live_run.learned_count.Given as goal

abbrev pub invariant-loop-place : goal.invariant-loop-place
invariant-loop-place g l = l.count ≤ l.place
