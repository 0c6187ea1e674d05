use Rattle.std.proofs.Common.{arith}
use Rattle.modem.specs.State.{channel_of}
use Rattle.seats.specs.Modems.{ComesTo}
use Rattle.seats.proofs.Callers.{one_does, none_does, comes_at}
use Rattle.node_worker.proofs.plant.tick.Goals as goal

pub returns-then-m-len-clause-next : goal.returns-then-m-len-clause-next
returns-then-m-len-clause-next c = λ rs outputs hold. none_does (λ r. ComesTo r c.args.slot c.args.random (channel_of r.state.channels c.args.ch)) c.args.modems.now.items rs c.args.m hold (omega arith)

pub returns-clause-next : goal.returns-clause-next
returns-clause-next c = λ rs outputs hold. one_does (λ r. ComesTo r c.args.slot c.args.random (channel_of r.state.channels c.args.ch)) c.tick_at.result c.args.modems.now.items rs c.args.m c.index_mut-modem.result.now c.tick_at.new.modem hold (omega arith) c.index_mut-modem.ensures.value (comes_at _ c.tick_at.new.modem c.args.ch c.args.slot c.args.random c.tick_at.result c.tick_at.ensures.comes)
