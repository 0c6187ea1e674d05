use Rattle.acceptor_store.proofs.AllWritten.{AreNumbersAfter}
use Rattle.acceptor_store.proofs.batches.raised_by_all.Given as goal

abbrev pub invariant-loop-bytes : goal.invariant-loop-bytes
invariant-loop-bytes l = AreNumbersAfter l.id l.writes l.bytes-index l.fn.before l.numbers
