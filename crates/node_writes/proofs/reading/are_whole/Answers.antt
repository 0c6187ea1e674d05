use Rattle.std.proofs.Common.{◌+◌, arith}
use Rattle.std.proofs.lemmas.Option.{slice_get-get_or}
use Rattle.node_writes.proofs.Leading.{none_next, none_at_all}
use Rattle.node_writes.proofs.reading.are_whole.Goals as goal

pub loop-bytes-preserved : goal.loop-bytes-preserved
loop-bytes-preserved c =
    none_next c.args.id c.args.writes.now c.loop-bytes.bytes-index (c.loop-bytes.bytes-index + 1) _ _ (omega arith)
    (slice_get-get_or c.args.writes.now c.loop-bytes.bytes-index _ c.loop-bytes-test.true) c.in-Some.ensures.some c.loop-bytes.invariant

pub returns-clause-whole : goal.returns-clause-whole
returns-clause-whole c = λ _. none_at_all c.args.id c.args.writes.now c.loop-bytes.bytes-index (omega (arith, c.loop-bytes-test.false)) c.loop-bytes.invariant
