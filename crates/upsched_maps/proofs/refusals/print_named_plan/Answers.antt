use Rattle.script_text.proofs.Callers.{no_plan_read}
use Rattle.upsched_maps.proofs.Printed.{named_printed}
use Rattle.upsched_maps.proofs.refusals.print_named_plan.Goals as goal

pub returns-clause-printed : goal.returns-clause-printed
returns-clause-printed g c =
    named_printed c.print_all_named.result (g.R.Read.remaining c.args.plan.now) _ _ c.in_ok-commands.commands.items c.in_ok-commands.ensures.plan
    (rw c.as_slice.ensures.value at c.print_all_named.ensures)

pub returns-clause-no_plan : goal.returns-clause-no_plan
returns-clause-no_plan g c = λ none.
    absurd (no_plan_read (g.R.Read.remaining c.args.plan.now) c.in_ok-commands.commands.items none c.in_ok-commands.ensures.plan)
