use Rattle.script_text.proofs.Callers.{no_plan_read}
use Rattle.upsched_resume.proofs.Known.{plan_resumed}
use Rattle.upsched_resume.proofs.resuming.resume.Goals as goal

pub returns-clause-resumed : goal.returns-clause-resumed
returns-clause-resumed g c =
    plan_resumed c.print_outputs.result (g.R.Read.remaining c.args.plan.now) _ _ _ _ c.in_ok-commands.commands.items c.in_ok-commands.ensures.plan
    (rw c.as_slice.ensures.value at c.print_outputs.ensures.rows) (rw c.as_slice.ensures.value at c.print_outputs.ensures.printed)

pub returns-clause-no_plan : goal.returns-clause-no_plan
returns-clause-no_plan g c = λ none.
    absurd (no_plan_read (g.R.Read.remaining c.args.plan.now) c.in_ok-commands.commands.items none c.in_ok-commands.ensures.plan)
