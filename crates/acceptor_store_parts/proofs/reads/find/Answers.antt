use Rattle.std.proofs.Common.{◌∙◌}
use Rattle.acceptor_store_parts.proofs.Words.{IfOk-weaker}
use Rattle.acceptor_store_parts.proofs.reads.find.Goals as goal

pub returns-in-Ok-clause-value : goal.returns-in-Ok-clause-value
returns-in-Ok-clause-value g c clean =
    IfOk-weaker c.read.result _ _ (λ x found d was. found c.args.place d (c.deref.ensures.value ∙ (rw c.ASKED.ensures at (c.in-Ok.ensures.value clean d was)))) c.read.ensures

pub returns-in-Ok-clause-stays : goal.returns-in-Ok-clause-stays
returns-in-Ok-clause-stays g c clean _ = c.in-Ok.ensures.stays clean tt
