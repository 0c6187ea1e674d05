use Rattle.network_script.proofs.Runs.{learned_is_written}
use Rattle.network_script.proofs.laws.learned_is_kept.Goals as goal

pub returns : goal.returns
returns c = learned_is_written
