use Rattle.grant_machine.proofs.Schedules.{sids_are_unicast}
use Rattle.grant_machine.proofs.laws.sids_are_unicast.Goals as goal

pub returns : goal.returns
returns c = sids_are_unicast
