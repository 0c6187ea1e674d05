use Rattle.std.proofs.Common.{◌<◌, length, arith}
use Rattle.epochs.proofs.Told.{table_more}
use Rattle.epochs.proofs.again.tell_tables.Goals as goal

pub loop-k-preserved : goal.loop-k-preserved
loop-k-preserved c =
    let below : c.loop-k.k < length c.args.rows.now = omega arith in
    table_more c.args.rows.now c.loop-k.k _ _ _ below c.loop-k.invariant c.in_ok-tell_table_at.ensures
