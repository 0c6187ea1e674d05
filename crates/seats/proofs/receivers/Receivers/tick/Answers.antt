use Rattle.std.proofs.Common.{arith}
use Rattle.modem.specs.State.{channel_of}
use Rattle.seats.specs.Modems.{ComesTo}
use Rattle.seats.proofs.AtModem.{one_does, none_does, comes_at}
use Rattle.seats.proofs.receivers.Receivers.tick.Goals as goal

pub returns-then-m-len-clause-next : goal.returns-then-m-len-clause-next
returns-then-m-len-clause-next c modems outputs hold = none_does (λ r. ComesTo r c.args.slot c.args.random (channel_of r.state.channels c.args.ch)) c.args.self.now.modems.items modems c.args.m hold (omega arith)

pub returns-clause-next : goal.returns-clause-next
returns-clause-next c modems outputs hold = one_does (λ r. ComesTo r c.args.slot c.args.random (channel_of r.state.channels c.args.ch)) c.come_to.result c.args.self.now.modems.items modems c.args.m c.index_mut-modem.result.now c.come_to.new.modem hold (omega arith) c.index_mut-modem.ensures.value (comes_at _ c.come_to.new.modem c.args.ch c.args.slot c.args.random c.come_to.result c.come_to.ensures.comes)
