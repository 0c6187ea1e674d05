use Rattle.script_text.proofs.Callers.{plan_known}
use Rattle.upsched_ends.proofs.text.plan_of.Goals as goal

pub returns-in-Ok-clause-plan : goal.returns-in-Ok-clause-plan
returns-in-Ok-clause-plan g c =
    plan_known (g.R.Read.remaining c.args.plan.now) _ _ c.in-Ok.commands.items c.in_ok-text.ensures.text c.as_str.ensures.value c.in-Ok.ensures.read
