use Rattle.grant_machine.proofs.Schedules.{owners_are_one}
use Rattle.grant_machine.proofs.laws.owners_are_one.Goals as goal

pub returns : goal.returns
returns c = owners_are_one
