use Rattle.std.proofs.Common.{◌≡◌, take, map}
use Rattle.std.specs.List.{All, filter}
use Rattle.modem.specs.KeptIntervals.{interval_of, is_shared, IsShort}
use Rattle.modem.proofs.kept.shared.Given as goal

abbrev pub invariant-loop-interval : goal.invariant-loop-interval
invariant-loop-interval l =
    (l.shared.items ≡ map (interval_of l.ch l.start) (filter is_shared (take l.interval-index l.intervals)))
    × All IsShort l.shared.items
