use Rattle.grant_machine.proofs.Schedules.{outputs_go_on}
use Rattle.grant_machine.proofs.laws.outputs_go_on.Goals as goal

pub returns : goal.returns
returns c = outputs_go_on
