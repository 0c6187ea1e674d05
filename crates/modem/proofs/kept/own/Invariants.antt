use Rattle.std.proofs.Common.{◌≡◌, take, map}
use Rattle.std.specs.List.{All}
use Rattle.modem.specs.KeptIntervals.{interval_of, covered, IsShort}
use Rattle.modem.proofs.kept.own.Given as goal

abbrev pub invariant-loop-interval : goal.invariant-loop-interval
invariant-loop-interval l =
    (l.own.items ≡ covered l.leases (map (interval_of l.ch l.start) (take l.interval-index l.intervals)))
    × All IsShort (map (interval_of l.ch l.start) (take l.interval-index l.intervals))
