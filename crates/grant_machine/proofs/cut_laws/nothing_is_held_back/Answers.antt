use Rattle.grant_machine.proofs.Keeping.{nothing_is_held_back}
use Rattle.grant_machine.proofs.cut_laws.nothing_is_held_back.Goals as goal

pub returns : goal.returns
returns c = nothing_is_held_back
