use Rattle.std.proofs.Common.{◌+◌, arith}
use Rattle.acceptor.specs.Content.{no_content}
use Rattle.std.proofs.lemmas.Option.{slice_get-get_or}
use Rattle.node_writes.proofs.Leading.{lead_next}
use Rattle.node_writes.proofs.reading.taken_back.Goals as goal

pub loop-bytes-preserved : goal.loop-bytes-preserved
loop-bytes-preserved c =
    lead_next c.args.id c.args.writes.now c.loop-bytes.bytes-index (c.loop-bytes.bytes-index + 1) _ _ no_content c.loop-bytes.records c.put.new.records (omega arith) c.in_ok-put.ensures
    (slice_get-get_or c.args.writes.now c.loop-bytes.bytes-index _ c.loop-bytes-test.true) c.loop-bytes.invariant c.in-Some.ensures.some
