use Rattle.script_text.proofs.Callers.{no_steps_read}
use Rattle.upsched_store.proofs.stored_run.print_in.Goals as goal

pub returns : goal.returns
returns g c = λ none.
    absurd (no_steps_read (g.F.Read.remaining c.args.script.now) c.in_ok-script.script.members c.in_ok-script.script.modems.items c.in_ok-script.script.steps.items none c.in_ok-script.ensures.script)
