use Rattle.map_picture.proofs.Filled.{owners_fit}
use Rattle.map_picture.proofs.columns.owners_fit.Goals as goal

pub returns : goal.returns
returns c = owners_fit
