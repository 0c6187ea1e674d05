use Rattle.node.proofs.Told.{told_at_once}
use Rattle.node.proofs.laws.limits.Goals as goal

pub returns : goal.returns
returns c = told_at_once
