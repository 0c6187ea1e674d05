use Rattle.grant_machine.proofs.Leases.{leases_are_apart}
use Rattle.grant_machine.proofs.laws.leases_are_apart.Goals as goal

pub returns : goal.returns
returns c = leases_are_apart
