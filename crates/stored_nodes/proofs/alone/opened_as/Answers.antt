use Rattle.stored_nodes.proofs.Copying.{owned_as}
use Rattle.stored_nodes.proofs.alone.opened_as.Goals as goal

pub returns-in-Ok-clause-holds : goal.returns-in-Ok-clause-holds
returns-in-Ok-clause-holds g c honest = let had = c.in-Ok.ensures.holds honest in (had.0, owned_as c.args.owner c.args.conn had.0 had.1, had.2)
