use Rattle.host_service.proofs.Apart.{asks_apart, numbered_not_apart}
use Rattle.host_service.proofs.laws.hosts_are_asked_apart.Goals as goal

pub returns-clause-asked : goal.returns-clause-asked
returns-clause-asked c = asks_apart

pub returns-clause-numbered : goal.returns-clause-numbered
returns-clause-numbered c = numbered_not_apart
