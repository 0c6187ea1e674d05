use Rattle.grant_machine.proofs.Reaching.{parts_are_whole}
use Rattle.grant_machine.proofs.laws.parts_are_whole.Goals as goal

pub returns : goal.returns
returns c = parts_are_whole
