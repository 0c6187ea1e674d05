use Rattle.upsched_check.proofs.Drawn.{maps_told}
use Rattle.upsched_check.proofs.Scripts.{no_plan_read, no_script_read}
use Rattle.upsched_check.proofs.plan_draws.print_plan.Goals as goal

pub returns-clause-told : goal.returns-clause-told
returns-clause-told g c =
    maps_told (g.R.Read.remaining c.args.plan.now) _ _ c.in_ok-commands.commands.items c.in_ok-commands.ensures.plan
    (rw c.as_slice.ensures.value at c.in_ok-tell_commands.ensures.told)

pub returns-clause-no_plan : goal.returns-clause-no_plan
returns-clause-no_plan g c = λ none. absurd (no_plan_read (g.R.Read.remaining c.args.plan.now) c.in_ok-commands.commands.items none c.in_ok-commands.ensures.plan)

pub returns-clause-script : goal.returns-clause-script
returns-clause-script g c = λ script. absurd (no_script_read (g.R.Read.remaining c.args.plan.now) script c.in_ok-commands.ensures.script)

pub returns-in_err-tell_commands-clause-no_plan : goal.returns-in_err-tell_commands-clause-no_plan
returns-in_err-tell_commands-clause-no_plan g c = λ none. absurd (no_plan_read (g.R.Read.remaining c.args.plan.now) c.in_ok-commands.commands.items none c.in_ok-commands.ensures.plan)
