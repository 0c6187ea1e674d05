use Rattle.epochs.proofs.Told.{rows_are_told}
use Rattle.epochs.proofs.laws.rows_are_told.Goals as goal

pub returns : goal.returns
returns c = rows_are_told
