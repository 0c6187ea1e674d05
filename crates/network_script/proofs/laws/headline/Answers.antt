use Rattle.network_script.proofs.Whole.{headline as all_of_it}
use Rattle.network_script.proofs.laws.headline.Goals as goal

pub returns : goal.returns
returns c = all_of_it
