use Rattle.upsched_script.proofs.Tried.{runs}
use Rattle.upsched_script.proofs.trial.runs_as_asked.Goals as goal

pub returns : goal.returns
returns c = λ yes.
    runs c.args.commands.now _ _ _ _ _ _ _ _ _ _ c.in-Ok.offers c.in_ok-report.ensures c.as_slice-events.ensures.value c.answers-answers.ensures c.in-Ok.ensures.0 c.crashes-crashed.ensures c.takeovers-overtaken.ensures
    (c.is_wished.ensures yes)
