use Rattle.node.proofs.Catching.{catches_up}
use Rattle.node.proofs.laws.catches_up.Goals as goal

pub returns : goal.returns
returns c = catches_up
