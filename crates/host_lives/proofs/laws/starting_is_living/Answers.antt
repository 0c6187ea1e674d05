use Rattle.host_lives.proofs.Starts.{starts_life, starts_new}
use Rattle.host_lives.proofs.laws.starting_is_living.Goals as goal

pub returns-clause-life : goal.returns-clause-life
returns-clause-life g c = starts_life c.args.host.now

pub returns-clause-new : goal.returns-clause-new
returns-clause-new g c = starts_new c.args.host.now
