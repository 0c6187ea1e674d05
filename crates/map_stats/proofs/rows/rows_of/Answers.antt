use Rattle.std.proofs.Common.{refl}
use Rattle.std.proofs.lemmas.Map.Iter.{rest_more}
use Rattle.std.specs.Map.Iter.{deref_pair}
use Rattle.map_stats.proofs.Rowing.{row_more}
use Rattle.map_stats.proofs.rows.rows_of.Goals as goal

pub loop-lease-preserved : goal.loop-lease-preserved
loop-lease-preserved c =
    let more = row_more c.args.sums.now.entries c.loop-lease.rows.items (record { lease = c.in-Some.lease.now; summary = c.in_ok-summary.summary }) (c.in-Some.lease.now, c.in-Some.had.now) c.loop-lease.lease-iterator c.next.new.self
    (rest_more deref_pair c.loop-lease.lease-iterator c.next.new.self c.next.result (c.in-Some.lease, c.in-Some.had) c.in-Some.is c.next.ensures.steps)
    c.loop-lease.invariant (refl, c.in_ok-summary.ensures) in
    rw c.in_ok-push.ensures.items more
