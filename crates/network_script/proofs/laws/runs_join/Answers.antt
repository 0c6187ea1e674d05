use Rattle.network_script.proofs.Joining.{runs_join as the_law}
use Rattle.network_script.proofs.laws.runs_join.Goals as goal

pub returns : goal.returns
returns c = the_law
