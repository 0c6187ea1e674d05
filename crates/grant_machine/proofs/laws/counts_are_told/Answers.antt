use Rattle.grant_machine.proofs.Counts.{counts_are_told}
use Rattle.grant_machine.proofs.laws.counts_are_told.Goals as goal

pub returns : goal.returns
returns c = counts_are_told
