use Rattle.std.proofs.Common.{take, map}
use Rattle.modem.specs.KeptIntervals.{kept_interval}
use Rattle.modem.specs.Ticks.{Counts}
use Rattle.modem.proofs.kept.counted_of.Given as goal

abbrev pub invariant-loop-interval : goal.invariant-loop-interval
invariant-loop-interval l = Counts (map kept_interval (take l.interval-index l.kept)) l.ch l.«at» l.counted
