use Rattle.std.proofs.Common.{◌+◌, refl, arith}
use Rattle.std.proofs.lemmas.Option.{slice_get-get_or}
use Rattle.acceptor_store.proofs.AllWritten.{numbers_next}
use Rattle.acceptor_store.proofs.batches.raised_by_all.Goals as goal

pub loop-bytes-init : goal.loop-bytes-init
loop-bytes-init c x known = (x, refl, known)

pub loop-bytes-preserved : goal.loop-bytes-preserved
loop-bytes-preserved c =
    numbers_next c.args.id c.args.writes.now c.loop-bytes.bytes-index (c.loop-bytes.bytes-index + 1) _ _ c.args.before _ _ (omega arith)
    (slice_get-get_or c.args.writes.now c.loop-bytes.bytes-index _ c.loop-bytes-test.true) c.in_ok-row.ensures.some c.loop-bytes.invariant c.in_ok-numbers.ensures
