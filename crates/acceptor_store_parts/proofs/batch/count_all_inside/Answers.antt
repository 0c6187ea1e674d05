use Rattle.std.proofs.Common.{arith}
use Rattle.node_writes.specs.Writes.{LeadTo}
use Rattle.acceptor_store_parts.proofs.Words.{HasCleanDisk, state}
use Rattle.acceptor_store_parts.proofs.Batches.{keeps_then, leads_inside}
use Rattle.acceptor_store_parts.proofs.Makes.{inside_then}
use Rattle.acceptor_store_parts.proofs.batch.count_all_inside.Goals as goal

pub returns-clause-put : goal.returns-clause-put
returns-clause-put g c clean inside =
    let mid = state g.S.Store c.put_all_inside.new.tx.conn.now in
    let sure : HasCleanDisk mid = omega (arith, c.put_next.ensures.survives.clean, clean) in
    let put = c.in_ok-put_all_inside.ensures.put sure inside in
    leads_inside (LeadTo c.args.id c.args.writes.now) c.args.next (state g.S.Store c.args.tx.now.conn.now) mid (state g.S.Store c.put_next.new.tx.conn.now) c.put_next.result put.1 (c.put_next.ensures.put clean put.0)

pub returns-clause-kept : goal.returns-clause-kept
returns-clause-kept g c clean inside =
    let mid = state g.S.Store c.put_all_inside.new.tx.conn.now in
    let sure : HasCleanDisk mid = omega (arith, c.put_next.ensures.survives.clean, clean) in
    let put = c.in_ok-put_all_inside.ensures.put sure inside in
    keeps_then (state g.S.Store c.args.tx.now.conn.now) mid (state g.S.Store c.put_next.new.tx.conn.now) (c.put_all_inside.ensures.kept sure inside) (c.put_next.ensures.kept clean put.0)

pub returns-clause-survives : goal.returns-clause-survives
returns-clause-survives g c = inside_then c.put_all_inside.ensures.survives c.put_next.ensures.survives
