use Rattle.network_script.proofs.Answered.{each_is_answered as the_law}
use Rattle.network_script.proofs.laws.each_is_answered.Goals as goal

pub returns : goal.returns
returns c = the_law
