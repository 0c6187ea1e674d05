use Rattle.plan_account.proofs.Covering.{cells_cover}
use Rattle.plan_account.proofs.laws.cells_cover.Goals as goal

pub returns : goal.returns
returns c = cells_cover
