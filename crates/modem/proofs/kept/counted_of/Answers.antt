use Rattle.std.proofs.Common.{take, map, [], ◌∷◌}
use Rattle.std.proofs.lemmas.List.{take_more, map-append}
use Rattle.modem.specs.declared.kept.KeptInterval.{KeptInterval}
use Rattle.modem.specs.KeptIntervals.{kept_interval}
use Rattle.modem.proofs.kept.counted_of.Goals as goal

pub loop-interval-preserved : goal.loop-interval-preserved
loop-interval-preserved c =
    let one : KeptInterval = c.interval-item.result in
    let xs = c.args.kept.now in
    let i = c.loop-interval.interval-index in
    rw (take_more xs i one c.loop-interval-test.true, ← c.interval-item.is, map-append kept_interval (take i xs) (one ∷ [])) (c.first_at-counted.ensures (map kept_interval (take i xs)) c.loop-interval.invariant)
