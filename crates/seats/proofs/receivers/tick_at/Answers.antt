use Rattle.modem.specs.State.{channel_of}
use Rattle.seats.proofs.AtModem.{comes_on, comes_back}
use Rattle.seats.proofs.receivers.tick_at.Goals as goal

pub returns-in-Ok-clause-comes : goal.returns-in-Ok-clause-comes
returns-in-Ok-clause-comes c =
    comes_on c.args.modem.now c.tick.new.self c.args.slot c.args.random (channel_of c.args.modem.now.channels c.args.ch) c.in-Ok.sending c.in-Ok.ensures.unknown c.in-Ok.ensures.back c.in-Ok.ensures.ticks c.in-Ok.ensures.stands

pub returns-in-Err-clause-comes : goal.returns-in-Err-clause-comes
returns-in-Err-clause-comes c =
    comes_back c.args.modem.now c.tick.new.self c.args.slot c.args.random (channel_of c.args.modem.now.channels c.args.ch) _ c.in-Err.ensures.unknown c.in-Err.ensures.back c.in-Err.ensures.ticks
