use Rattle.map_picture.proofs.Filled.{cells_fill}
use Rattle.map_picture.proofs.cells.cells_fill.Goals as goal

pub returns : goal.returns
returns c = cells_fill
