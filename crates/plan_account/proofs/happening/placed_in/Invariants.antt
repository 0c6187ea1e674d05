use Rattle.std.proofs.Common.{◌≡◌, ◌≤◌, take}
use Rattle.plan_account.specs.Happenings.{placed_in}
use Rattle.plan_account.proofs.happening.placed_in.Given as goal

abbrev pub invariant-loop-interval : goal.invariant-loop-interval
invariant-loop-interval l = (l.placed ≡ placed_in (take l.interval-index l.found)) × (l.placed ≤ l.interval-index)
