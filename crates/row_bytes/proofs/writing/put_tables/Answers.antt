use Rattle.std.proofs.Common.{◌<◌, length, arith}
use Rattle.row_bytes.proofs.Written.{table_written}
use Rattle.row_bytes.proofs.writing.put_tables.Goals as goal

pub loop-k-preserved : goal.loop-k-preserved
loop-k-preserved c =
    let before = c.loop-k.invariant in
    let below : c.loop-k.k < length c.args.rows.now = omega arith in
    table_written c.args.rows.now c.loop-k.k _ _ _ below before.0 before.1 c.in_ok-put_table_at.ensures
