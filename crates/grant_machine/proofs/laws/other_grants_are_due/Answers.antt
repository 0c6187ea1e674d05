use Rattle.grant_machine.proofs.Timely.{other_grants_are_due}
use Rattle.grant_machine.proofs.laws.other_grants_are_due.Goals as goal

pub returns : goal.returns
returns c = other_grants_are_due
