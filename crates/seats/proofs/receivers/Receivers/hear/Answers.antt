use Rattle.std.proofs.Common.{arith, slice_get}
use Rattle.seats.specs.Modems.{Listens}
use Rattle.seats.proofs.AtModem.{one_does, one_stays, none_does, listens, hears_none}
use Rattle.seats.proofs.receivers.Receivers.hear.Goals as goal

pub returns-then-len-m-clause-next : goal.returns-then-len-m-clause-next
returns-then-len-m-clause-next c modems hold = none_does (λ r. Listens r (slice_get c.args.outputs.now c.args.i) c.args.near) c.args.self.now.modems.items modems c.args.m hold (omega arith)

pub returns-then-outputs-i-clause-next : goal.returns-then-outputs-i-clause-next
returns-then-outputs-i-clause-next c modems hold = one_stays (λ r. Listens r (slice_get c.args.outputs.now c.args.i) c.args.near) _ c.args.self.now.modems.items modems c.args.m hold (omega arith) (λ r. hears_none c.args.outputs.now c.args.i c.args.near r (omega arith))

pub returns-clause-next : goal.returns-clause-next
returns-clause-next c modems hold =
    one_does (λ r. Listens r (slice_get c.args.outputs.now c.args.i) c.args.near) c.hear_near.result c.args.self.now.modems.items modems c.args.m c.index_mut-modem.result.now c.hear_near.new.modem hold (omega arith) c.index_mut-modem.ensures.value
    (λ r is. let one = c.hear_near.ensures.hears r is in (one.0, listens c.args.outputs.now c.args.i c.args.near c.index-outputs-i.result c.hear_near.result r one.0 (omega arith) c.index-outputs-i.is one.1, one.2))
