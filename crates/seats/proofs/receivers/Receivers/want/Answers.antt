use Rattle.std.proofs.Common.{arith}
use Rattle.seats.specs.Modems.{Wants}
use Rattle.seats.proofs.AtModem.{one_does, none_does}
use Rattle.seats.proofs.receivers.Receivers.want.Goals as goal

pub returns-then-m-len-clause-next : goal.returns-then-m-len-clause-next
returns-then-m-len-clause-next c modems outputs hold = none_does (λ r. Wants r c.args.ch c.args.sid c.args.n) c.args.self.now.modems.items modems c.args.m hold (omega arith)

pub returns-clause-next : goal.returns-clause-next
returns-clause-next c modems outputs hold = one_does (λ r. Wants r c.args.ch c.args.sid c.args.n) c.ask.result c.args.self.now.modems.items modems c.args.m c.index_mut-modem.result.now c.ask.new.modem hold (omega arith) c.index_mut-modem.ensures.value c.ask.ensures.wants
