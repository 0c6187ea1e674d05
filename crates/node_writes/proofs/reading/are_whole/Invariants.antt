use Rattle.node_writes.proofs.Leading.{NoneStrange}
use Rattle.node_writes.proofs.reading.are_whole.Given as goal

abbrev pub invariant-loop-bytes : goal.invariant-loop-bytes
invariant-loop-bytes l = NoneStrange l.id l.writes l.bytes-index
