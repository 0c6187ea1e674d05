use Rattle.std.proofs.Common.{◌≡◌, ◌++◌, take}
use Rattle.std.specs.List.{filter_map}
use Rattle.modem.specs.KeptIntervals.{piece}
use Rattle.modem.proofs.kept.add_pieces.Given as goal

abbrev pub invariant-loop-lease : goal.invariant-loop-lease
invariant-loop-lease l = l.covered.items ≡ l.initial.covered.items ++ filter_map (piece l.interval) (take l.lease-index l.leases)
