use Rattle.map_picture.proofs.Numbered.{numbers_are_round}
use Rattle.map_picture.proofs.scales.numbers_are_round.Goals as goal

pub returns : goal.returns
returns c = numbers_are_round
