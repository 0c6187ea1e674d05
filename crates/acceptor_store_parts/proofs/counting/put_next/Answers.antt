use Rattle.std.proofs.Common.{sym, rules, Fits, w64}
use Rattle.acceptor_store_parts.proofs.Words.{state}
use Rattle.acceptor_store_parts.proofs.Batches.{counts_none, counts_some, keeps_same, survives_same}
use Rattle.acceptor_store_parts.proofs.Makes.{on_ok}
use Rattle.acceptor_store_parts.proofs.counting.put_next.Goals as goal

pub returns-in-None-clause-put : goal.returns-in-None-clause-put
returns-in-None-clause-put g c clean inside = rw c.in-None.is (counts_none (state g.S.Store c.args.tx.now.conn.now) inside)

pub returns-in-None-clause-kept : goal.returns-in-None-clause-kept
returns-in-None-clause-kept g c clean inside = keeps_same _

pub returns-in-None-clause-survives : goal.returns-in-None-clause-survives
returns-in-None-clause-survives g c = survives_same _

pub returns-in-Some-clause-put : goal.returns-in-Some-clause-put
returns-in-Some-clause-put g c clean inside =
    rw c.in-Some.is (on_ok c.put_count.result (c.put_count.ensures.put clean inside) (counts_some c.in-Some.count (state g.S.Store c.args.tx.now.conn.now) (state g.S.Store c.put_count.new.tx.conn.now) (search rules)))
