use Rattle.plan_account.proofs.Scheduled.{outputs_have_deeds}
use Rattle.plan_account.proofs.laws.outputs_have_deeds.Goals as goal

pub returns : goal.returns
returns c = outputs_have_deeds c.maps_are_bodies_from.ensures
