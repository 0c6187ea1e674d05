use Rattle.std.proofs.Common.{◌≡◌, ◌++◌, take, drop, map}
use Rattle.modem.specs.Sights.{forgotten}
use Rattle.modem.proofs.sight.forget_in.Given as goal

abbrev pub invariant-loop-sight : goal.invariant-loop-sight
invariant-loop-sight l = l.sights ≡ map forgotten (take l.sight-index l.initial.sights) ++ drop l.sight-index l.initial.sights
