use Rattle.std.proofs.Common.{take, arith}
use Rattle.std.proofs.lemmas.List.{take_more}
use Rattle.modem.specs.declared.kept.KeptInterval.{KeptInterval}
use Rattle.modem.proofs.Order.{HasAt-one_more}
use Rattle.modem.proofs.kept.add_all.Goals as goal

pub loop-interval-preserved : goal.loop-interval-preserved
loop-interval-preserved c =
    let one : KeptInterval = c.interval-item.result in
    let is = c.args.intervals.now in
    let i = c.loop-interval.interval-index in (
      c.add.ensures.kept,
      omega (arith, c.add.ensures.more, c.add.ensures.room, c.loop-interval.invariant.1, c.loop-interval-test.true),
      λ at_ch m sid iuc.
          let so_far = c.loop-interval.invariant.2 at_ch m sid iuc in
          let one_more = c.add.ensures.held at_ch m sid iuc in
          rw (take_more is i one c.loop-interval-test.true, ← c.interval-item.is) (HasAt-one_more c.args.kept.now.items c.loop-interval.kept.items c.add.new.kept.items (take i is) one at_ch m sid iuc so_far one_more),
    )
