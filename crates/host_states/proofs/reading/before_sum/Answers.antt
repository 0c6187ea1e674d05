use Rattle.std.proofs.Common.{arith, rules}
use Rattle.host_states.proofs.Framing.{sum_differs, too_short}
use Rattle.host_states.proofs.reading.before_sum.Goals as goal

pub returns-then-bytes-lt-SUM_BYTES : goal.returns-then-bytes-lt-SUM_BYTES
returns-then-bytes-lt-SUM_BYTES c = λ told. too_short c.args.bytes.now told (search rules)

pub returns-else-are_same : goal.returns-else-are_same
returns-else-are_same c = λ told. sum_differs c.args.bytes.now c.split_at.result.0.now c.split_at.result.1.now told (search rules) (search rules) (search rules) (search rules)
