use Rattle.node_lives.proofs.Begun.{beginnings_are_lives}
use Rattle.node_lives.proofs.laws.beginnings_are_lives.Goals as goal

pub returns : goal.returns
returns c = beginnings_are_lives
