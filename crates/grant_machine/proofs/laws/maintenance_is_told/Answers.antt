use Rattle.grant_machine.proofs.Tellings.{maintenance_is_told}
use Rattle.grant_machine.proofs.laws.maintenance_is_told.Goals as goal

pub returns : goal.returns
returns c = maintenance_is_told
