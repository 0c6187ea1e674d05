use Rattle.script_text.proofs.Callers.{no_plan_read}
use Rattle.upsched_live.proofs.live_run.live_audited.Goals as goal

pub returns-clause-no_plan : goal.returns-clause-no_plan
returns-clause-no_plan g c = λ none.
    absurd (no_plan_read (g.F.Read.remaining c.args.plan.now) c.in_ok-commands.commands.items none c.in_ok-commands.ensures.plan)

pub returns-in_err-verdict-clause-no_plan : goal.returns-in_err-verdict-clause-no_plan
returns-in_err-verdict-clause-no_plan g c = λ none.
    absurd (no_plan_read (g.F.Read.remaining c.args.plan.now) c.in_ok-commands.commands.items none c.in_ok-commands.ensures.plan)

pub returns-in_err-verdict-clause-no_plan_fault : goal.returns-in_err-verdict-clause-no_plan_fault
returns-in_err-verdict-clause-no_plan_fault g c = λ none.
    absurd (no_plan_read (g.F.Read.remaining c.args.plan.now) c.in_ok-commands.commands.items none c.in_ok-commands.ensures.plan)
