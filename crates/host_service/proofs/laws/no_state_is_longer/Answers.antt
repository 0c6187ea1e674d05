use Rattle.host_service.proofs.Longest.{state_fits}
use Rattle.host_service.proofs.laws.no_state_is_longer.Goals as goal

pub returns : goal.returns
returns c = λ bytes few. state_fits bytes few
