use Rattle.map_text.proofs.Fitting.{lines_fit}
use Rattle.map_text.proofs.laws.lines_fit.Goals as goal

pub returns : goal.returns
returns c = lines_fit
