use Rattle.network_script.proofs.Counted.{few_faults}
use Rattle.network_script.proofs.laws.few_faults.Goals as goal

pub returns : goal.returns
returns c = few_faults
