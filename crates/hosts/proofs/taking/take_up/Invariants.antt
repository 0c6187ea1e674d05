use Rattle.std.proofs.Common.{◌≡◌}
use Rattle.hosts.specs.Taking.{TakesFrom}
use Rattle.hosts.proofs.taking.take_up.Given as goal

abbrev pub invariant-loop-place : goal.invariant-loop-place
invariant-loop-place g l = TakesFrom l.seat l.places l.initial.taken l.initial.scheduler l.taken l.scheduler × (l.taken ≡ l.place)
