use Rattle.script_text.proofs.Callers.{steps_known}
use Rattle.upsched_ends.proofs.text.steps_of.Goals as goal

pub returns-in-Ok-clause-script : goal.returns-in-Ok-clause-script
returns-in-Ok-clause-script g c =
    steps_known (g.R.Read.remaining c.args.script.now) _ _ c.in-Ok.script.members c.in-Ok.script.modems.items c.in-Ok.script.steps.items c.in_ok-text.ensures.text c.as_str.ensures.value c.in-Ok.ensures.read
