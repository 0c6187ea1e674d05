use Rattle.map_picture.proofs.Filled.{ends_agree}
use Rattle.map_picture.proofs.cells.ends_agree.Goals as goal

pub returns : goal.returns
returns c = ends_agree
