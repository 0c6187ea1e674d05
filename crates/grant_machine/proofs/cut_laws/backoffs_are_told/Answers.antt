use Rattle.grant_machine.proofs.Keeping.{backoffs_are_told}
use Rattle.grant_machine.proofs.cut_laws.backoffs_are_told.Goals as goal

pub returns : goal.returns
returns c = backoffs_are_told
