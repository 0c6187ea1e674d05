use Rattle.upsched_check.proofs.Scripts.{plan_known, not_alone}
use Rattle.upsched_check.proofs.plan_words.commands_of.Goals as goal

pub returns-clause-plan : goal.returns-clause-plan
returns-clause-plan g c =
    plan_known (g.R.Read.remaining c.args.plan.now) _ _ c.in_ok-commands.commands.items c.in_ok-text.ensures.text c.as_str.ensures.value c.in_ok-commands.ensures.plan

pub returns-clause-script : goal.returns-clause-script
returns-clause-script g c =
    not_alone (g.R.Read.remaining c.args.plan.now) _ _ c.in_ok-text.ensures.text c.as_str.ensures.value c.in_ok-commands.ensures.script
