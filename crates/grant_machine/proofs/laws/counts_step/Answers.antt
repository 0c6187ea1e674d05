use Rattle.grant_machine.proofs.Counts.{counts_step}
use Rattle.grant_machine.proofs.laws.counts_step.Goals as goal

pub returns : goal.returns
returns c = counts_step
