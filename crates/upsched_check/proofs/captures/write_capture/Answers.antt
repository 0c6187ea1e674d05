use Rattle.upsched_check.proofs.Captured.{plan_captured}
use Rattle.upsched_check.proofs.Scripts.{no_plan_read, no_script_read}
use Rattle.upsched_check.proofs.captures.write_capture.Goals as goal

pub returns-clause-written : goal.returns-clause-written
returns-clause-written g c =
    plan_captured c.write_maps.result (g.R.Read.remaining c.args.plan.now) _ _ c.in_ok-commands.commands.items c.in_ok-commands.ensures.plan
    (rw c.as_slice.ensures.value at c.write_maps.ensures)

pub returns-clause-no_plan : goal.returns-clause-no_plan
returns-clause-no_plan g c = λ none. absurd (no_plan_read (g.R.Read.remaining c.args.plan.now) c.in_ok-commands.commands.items none c.in_ok-commands.ensures.plan)

pub returns-clause-script : goal.returns-clause-script
returns-clause-script g c = λ script. absurd (no_script_read (g.R.Read.remaining c.args.plan.now) script c.in_ok-commands.ensures.script)
