use Rattle.std.proofs.Common.{refl}
use Rattle.batched_node.proofs.Noting.{began}
use Rattle.batched_node.proofs.seat.BatchedSeat.of.Goals as goal

pub returns-clause-noted : goal.returns-clause-noted
returns-clause-noted g c =
    let made = c.in_ok-noted.ensures in
    (began c.new-2.result (λ n. n.parts) (record { stands = λ n s h. h; stood = λ n s h. h; who = λ n. refl; values = λ n. refl; honest = λ n. refl })
    g.W.WriteStore c.in_ok-noted.noted c.args.store c.args.node c.new-2.ensures.node c.requires.some made.store made.none made.goes_on c.requires.holds).0

pub returns-clause-kept : goal.returns-clause-kept
returns-clause-kept g c =
    let made = c.in_ok-noted.ensures in
    (began c.new-2.result (λ n. n.parts) (record { stands = λ n s h. h; stood = λ n s h. h; who = λ n. refl; values = λ n. refl; honest = λ n. refl })
    g.W.WriteStore c.in_ok-noted.noted c.args.store c.args.node c.new-2.ensures.node c.requires.some made.store made.none made.goes_on c.requires.holds).1
