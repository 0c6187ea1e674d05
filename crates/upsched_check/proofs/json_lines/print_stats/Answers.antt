use Rattle.upsched_check.proofs.Scripts.{no_plan_read, no_script_read}
use Rattle.upsched_check.proofs.Valued.{plan_valued}
use Rattle.upsched_check.proofs.json_lines.print_stats.Goals as goal

pub returns-clause-told : goal.returns-clause-told
returns-clause-told g c =
    plan_valued (g.R.Read.remaining c.args.plan.now) _ _ c.in_ok-commands.commands.items c.in_ok-told.told.0 c.in_ok-told.told.1 c.in_ok-rows.rows.items c.in_ok-commands.ensures.plan
    (rw c.as_slice.ensures.value at c.in_ok-told.ensures) c.in_ok-rows.ensures c.in_ok-print_rows.ensures.in_order (rw c.as_slice-2.ensures.value at c.in_ok-print_rows.ensures.printed)

pub returns-clause-no_plan : goal.returns-clause-no_plan
returns-clause-no_plan g c = λ none. absurd (no_plan_read (g.R.Read.remaining c.args.plan.now) c.in_ok-commands.commands.items none c.in_ok-commands.ensures.plan)

pub returns-clause-script : goal.returns-clause-script
returns-clause-script g c = λ script. absurd (no_script_read (g.R.Read.remaining c.args.plan.now) script c.in_ok-commands.ensures.script)

pub returns-in_err-print_rows-clause-no_plan : goal.returns-in_err-print_rows-clause-no_plan
returns-in_err-print_rows-clause-no_plan g c = λ none. absurd (no_plan_read (g.R.Read.remaining c.args.plan.now) c.in_ok-commands.commands.items none c.in_ok-commands.ensures.plan)

pub returns-in_err-print_rows-clause-script : goal.returns-in_err-print_rows-clause-script
returns-in_err-print_rows-clause-script g c = λ script. absurd (no_script_read (g.R.Read.remaining c.args.plan.now) script c.in_ok-commands.ensures.script)
