use Rattle.std.proofs.Common.{take, map}
use Rattle.modem.specs.KeptIntervals.{interval_of}
use Rattle.modem.proofs.Pieces.{All-covered}
use Rattle.modem.proofs.kept.own.Goals as goal

pub returns-clause-short : goal.returns-clause-short
returns-clause-short c =
    rw c.loop-interval.invariant.0 (All-covered c.args.leases.now (map (interval_of c.args.ch c.args.start) (take c.loop-interval.interval-index c.args.intervals.now)) c.loop-interval.invariant.1)
