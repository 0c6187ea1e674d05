use Rattle.std.proofs.Common.{rules}
use Rattle.text_faults.proofs.Unfit.{script_unfit}
use Rattle.text_faults.proofs.Whole.{script_law}
use Rattle.text_faults.proofs.search.script_faults.Goals as goal

pub returns-clause-none : goal.returns-clause-none
returns-clause-none c = script_law _ _ (search rules)

pub returns-clause-unfit : goal.returns-clause-unfit
returns-clause-unfit c = script_unfit _ _ (search rules)
