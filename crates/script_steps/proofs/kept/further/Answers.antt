use Rattle.std.proofs.Common.{subst, sym}
use Rattle.script_steps.specs.Kept.{IsPassed}
use Rattle.script_steps.proofs.Finding.{passed_further}
use Rattle.script_steps.proofs.kept.further.Goals as goal

pub returns-clause-passed : goal.returns-clause-passed
returns-clause-passed c =
    subst (λ n. IsPassed c.args.sent.now (record { parts = c.args.before.parts; below = n })) (sym c.unwrap_or.ensures)
    (passed_further c.args.sent.now c.args.before.parts c.args.before.below c.first_waiting-first.result c.requires c.first_waiting-first.ensures)
