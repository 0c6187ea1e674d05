use Rattle.grant_machine.proofs.Timely.{grants_are_leased}
use Rattle.grant_machine.proofs.laws.grants_are_leased.Goals as goal

pub returns : goal.returns
returns c = grants_are_leased
