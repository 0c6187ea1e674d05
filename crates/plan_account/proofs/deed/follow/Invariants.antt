use Rattle.std.proofs.Common.{◌≡◌, drop}
use Rattle.plan_account.specs.Cover.{follow}
use Rattle.plan_account.proofs.deed.follow.Given as goal

abbrev pub invariant-loop-interval : goal.invariant-loop-interval
invariant-loop-interval l = follow l.behind (drop l.interval-index l.intervals) l.len ≡ follow 0 l.intervals l.len
