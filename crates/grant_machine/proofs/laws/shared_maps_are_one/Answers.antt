use Rattle.grant_machine.proofs.Schedules.{shared_maps_are_one}
use Rattle.grant_machine.proofs.laws.shared_maps_are_one.Goals as goal

pub returns : goal.returns
returns c = shared_maps_are_one
