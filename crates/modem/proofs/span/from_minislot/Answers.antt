use Rattle.modem.proofs.Spans.{Stay-made}
use Rattle.modem.proofs.span.from_minislot.Goals as goal

pub returns : goal.returns
returns c = λ wants last.
    Stay-made c.args.leases.now wants (record { channel = c.args.ch; from = c.args.«at»; until = c.end_before.result }) (λ x from before. c.next_edge.ensures.same x from (c.end_before.ensures.before x before).0) last
