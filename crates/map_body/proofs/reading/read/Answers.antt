use Rattle.std.proofs.Common.{arith}
use Rattle.map_body.proofs.Readings.{spelling_len, head_cut}
use Rattle.map_body.proofs.reading.read.Goals as goal

pub returns-then-rest-from-clause-none : goal.returns-then-rest-from-clause-none
returns-then-rest-from-clause-none c = λ map p.
    let len = spelling_len c.args.bytes.now map.head map.elements p.0 p.1 in
    let cut = head_cut c.args.bytes.now c.take_head-count.result.2.now c.take_head-count.result.0 c.take_head-count.result.1 c.take_head-count.ensures.bytes.0 c.take_head-count.ensures.bytes.1 in
    omega (arith, len.0, len.1, cut.0, cut.1)
