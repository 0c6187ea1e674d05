use Rattle.grant_machine.proofs.Tellings.{grants_are_told}
use Rattle.grant_machine.proofs.laws.grants_are_told.Goals as goal

pub returns : goal.returns
returns c = grants_are_told
