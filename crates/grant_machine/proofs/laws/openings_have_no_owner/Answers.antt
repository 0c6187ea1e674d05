use Rattle.grant_machine.proofs.Schedules.{openings_have_no_owner}
use Rattle.grant_machine.proofs.laws.openings_have_no_owner.Goals as goal

pub returns : goal.returns
returns c = openings_have_no_owner
