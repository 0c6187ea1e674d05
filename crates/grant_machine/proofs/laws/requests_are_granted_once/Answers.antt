use Rattle.grant_machine.proofs.Requests.{requests_are_granted_once}
use Rattle.grant_machine.proofs.laws.requests_are_granted_once.Goals as goal

pub returns : goal.returns
returns c = requests_are_granted_once
