use Rattle.script_text.proofs.Steps.{events_are_steps}
use Rattle.script_text.proofs.step_script.events_are_steps.Goals as goal

pub returns : goal.returns
returns c = events_are_steps
