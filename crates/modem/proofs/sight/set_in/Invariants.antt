use Rattle.std.proofs.Common.{◌≡◌, ◌++◌, take, drop}
use Rattle.modem.specs.Sights.{with_sight}
use Rattle.modem.proofs.sight.set_in.Given as goal

abbrev pub invariant-loop-sight : goal.invariant-loop-sight
invariant-loop-sight l = l.sights ≡ with_sight l.row (take l.sight-index l.initial.sights) ++ drop l.sight-index l.initial.sights
