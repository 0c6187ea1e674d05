use Rattle.upsched_script.proofs.Tried.{not_understood}
use Rattle.upsched_script.proofs.written.script.Goals as goal

pub returns-in-Err-clause-deserved : goal.returns-in-Err-clause-deserved
returns-in-Err-clause-deserved g c = λ is.
    not_understood (g.R.Read.remaining c.args.plan.now) c.args.words.now c.in-Err.refusal (c.told.ensures.words.0 is) c.in-Err.ensures.deserved
