use Rattle.grant_machine.proofs.Tellings.{cells_are_granted}
use Rattle.grant_machine.proofs.laws.cells_are_granted.Goals as goal

pub returns : goal.returns
returns c = cells_are_granted
