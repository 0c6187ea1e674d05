use Rattle.std.proofs.lemmas.Result.{IfOk-weaker}
use Rattle.stored_nodes.proofs.Copying.{made_alone}
use Rattle.stored_nodes.proofs.alone.made_records.Goals as goal

pub returns-clause-holds : goal.returns-clause-holds
returns-clause-holds g c = λ blank.
    made_alone {g = g.D.Disk} c.args.owner.now c.in_ok-filled.filled c.in_ok-again.again c.opened_as.result (λ clean. c.in_ok-filled.ensures.made clean blank) c.in_ok-again.ensures.copied c.opened_as.ensures.holds c.opened_as.ensures.clean

pub returns-clause-clean : goal.returns-clause-clean
returns-clause-clean g c =
    IfOk-weaker c.opened_as.result _ _ (λ r clean honest. c.in_ok-filled.ensures.clean (c.in_ok-again.ensures.copied (clean honest)).copied.was_clean) c.opened_as.ensures.clean
