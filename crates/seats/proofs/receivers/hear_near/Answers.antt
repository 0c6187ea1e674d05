use Rattle.seats.proofs.AtModem.{hears_on}
use Rattle.seats.proofs.receivers.hear_near.Goals as goal

pub returns-in-Ok-clause-hears : goal.returns-in-Ok-clause-hears
returns-in-Ok-clause-hears c = hears_on _ c.hear.new.self c.args.output.now c.args.near c.in-Ok.heard (c.is_timely.ensures.0 c.if-not-is_timely.false) c.in-Ok.ensures.ok c.in-Ok.ensures.stands
