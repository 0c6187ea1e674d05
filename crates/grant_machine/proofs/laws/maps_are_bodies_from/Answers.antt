use Rattle.grant_machine.proofs.Schedules.{maps_are_bodies_from}
use Rattle.grant_machine.proofs.laws.maps_are_bodies_from.Goals as goal

pub returns : goal.returns
returns c = maps_are_bodies_from
