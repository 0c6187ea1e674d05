use Rattle.host_service.proofs.Digits.{one_numbered}
use Rattle.host_service.proofs.laws.one_number.Goals as goal

pub returns : goal.returns
returns c = λ line n m rest more a b. one_numbered line n m rest more a b
