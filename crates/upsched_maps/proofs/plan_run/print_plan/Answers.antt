use Rattle.script_text.proofs.Callers.{no_plan_read}
use Rattle.upsched_maps.proofs.Printed.{plan_printed}
use Rattle.upsched_maps.proofs.plan_run.print_plan.Goals as goal

pub returns-clause-printed : goal.returns-clause-printed
returns-clause-printed g c =
    plan_printed c.print_outputs.result (g.R.Read.remaining c.args.plan.now) _ _ c.in_ok-commands.commands.items c.in_ok-commands.ensures.plan
    (rw (c.as_slice.ensures.value, c.new-machine.ensures) at c.print_outputs.ensures.printed)

pub returns-clause-no_plan : goal.returns-clause-no_plan
returns-clause-no_plan g c = λ none.
    absurd (no_plan_read (g.R.Read.remaining c.args.plan.now) c.in_ok-commands.commands.items none c.in_ok-commands.ensures.plan)
