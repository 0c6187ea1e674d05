use Rattle.script_text.proofs.Callers.{no_steps_read}
use Rattle.upsched_run.proofs.plain.print_by_number.Goals as goal

pub returns-clause-no_script : goal.returns-clause-no_script
returns-clause-no_script g c = λ none.
    absurd (no_steps_read (g.F.Read.remaining c.args.script.now) c.in_ok-steps.steps.members c.in_ok-steps.steps.modems.items c.in_ok-steps.steps.steps.items none c.in_ok-steps.ensures.script)
