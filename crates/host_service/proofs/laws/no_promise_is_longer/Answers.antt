use Rattle.host_service.proofs.Longest.{fits_behind}
use Rattle.host_service.proofs.laws.no_promise_is_longer.Goals as goal

pub returns : goal.returns
returns c = λ n l epoch places within. fits_behind n l epoch places within
