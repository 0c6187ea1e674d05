use Rattle.std.proofs.Common.{rules}
use Rattle.text_faults.proofs.Unfit.{plan_unfit}
use Rattle.text_faults.proofs.Whole.{plan_law}
use Rattle.text_faults.proofs.search.plan_faults.Goals as goal

pub returns-clause-none : goal.returns-clause-none
returns-clause-none c = plan_law _ _ (search rules)

pub returns-clause-unfit : goal.returns-clause-unfit
returns-clause-unfit c = plan_unfit _ _ (search rules)
