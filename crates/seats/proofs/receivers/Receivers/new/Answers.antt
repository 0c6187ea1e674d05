use Rattle.seats.proofs.AtModem.{new_are}
use Rattle.seats.proofs.receivers.Receivers.new.Goals as goal

pub returns-clause-holds : goal.returns-clause-holds
returns-clause-holds c = new_are c.args.modems.items c.requires
