use Rattle.std.proofs.Common.{arith}
use Rattle.seats.specs.Modems.{Wants}
use Rattle.seats.proofs.Callers.{one_does, none_does}
use Rattle.node_worker.proofs.plant.want.Goals as goal

pub returns-then-m-len : goal.returns-then-m-len
returns-then-m-len c = record { next = λ rs outputs hold. none_does (λ r. Wants r c.args.ch c.args.sid c.args.n) c.args.modems.now.items rs c.args.m hold (omega arith) }

pub returns : goal.returns
returns c = record { next = λ rs outputs hold. one_does (λ r. Wants r c.args.ch c.args.sid c.args.n) c.ask.result c.args.modems.now.items rs c.args.m c.index_mut-modem.result.now c.ask.new.modem hold (omega arith) c.index_mut-modem.ensures.value c.ask.ensures.wants }
