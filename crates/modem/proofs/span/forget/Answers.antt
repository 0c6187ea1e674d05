use Rattle.modem.proofs.Spans.{AreSpans-forgotten}
use Rattle.modem.proofs.span.forget.Goals as goal

pub returns : goal.returns
returns c = λ leases wants. rw c.forget_all.ensures (AreSpans-forgotten leases wants c.args.spans.now.items)
