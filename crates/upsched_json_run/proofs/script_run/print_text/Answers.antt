use Rattle.script_text.proofs.Callers.{no_steps_read}
use Rattle.upsched_json_run.proofs.Told.{plain_printed}
use Rattle.upsched_json_run.proofs.script_run.print_text.Goals as goal

pub returns-clause-printed : goal.returns-clause-printed
returns-clause-printed g c =
    plain_printed c.args.is_traced c.print_plain.result (g.F.Read.remaining c.args.script.now) _ _ c.in_ok-script.script.members c.in_ok-script.script.modems.items c.in_ok-script.script.steps.items c.in_ok-script.ensures.script c.print_plain.ensures.printed

pub returns-clause-no_script : goal.returns-clause-no_script
returns-clause-no_script g c = λ none.
    absurd (no_steps_read (g.F.Read.remaining c.args.script.now) c.in_ok-script.script.members c.in_ok-script.script.modems.items c.in_ok-script.script.steps.items none c.in_ok-script.ensures.script)
