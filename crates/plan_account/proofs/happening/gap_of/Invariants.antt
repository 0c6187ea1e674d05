use Rattle.std.proofs.Common.{◌≡◌, take}
use Rattle.plan_account.specs.Happenings.{gap_of}
use Rattle.plan_account.proofs.happening.gap_of.Given as goal

abbrev pub invariant-loop-interval : goal.invariant-loop-interval
invariant-loop-interval l = l.gap ≡ gap_of (take l.interval-index l.found)
