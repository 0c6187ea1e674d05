use Rattle.grant_machine.proofs.Keeping.{minislots_are_kept}
use Rattle.grant_machine.proofs.cut_laws.minislots_are_kept.Goals as goal

pub returns : goal.returns
returns c = minislots_are_kept
