use Rattle.grant_machine.proofs.Added.{maintenance_is_due}
use Rattle.grant_machine.proofs.laws.maintenance_is_due.Goals as goal

pub returns : goal.returns
returns c = maintenance_is_due
