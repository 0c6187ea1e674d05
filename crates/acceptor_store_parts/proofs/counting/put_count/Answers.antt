use Rattle.acceptor_store_parts.proofs.Words.{state}
use Rattle.acceptor_store_parts.proofs.Makes.{both, puts_count}
use Rattle.acceptor_store_parts.proofs.counting.put_count.Goals as goal

pub returns-clause-put : goal.returns-clause-put
returns-clause-put g c clean inside =
    let old = state g.S.Store c.args.tx.now.conn.now in
    let new = state g.S.Store c.run_inside.new.tx.conn.now in
    let ran = rw c.bytes_of_count-bytes.ensures at (c.run_inside.ensures.ran clean inside) in
    both c.run_inside.result (c.run_inside.ensures.inside clean inside) ran (λ mode it. puts_count old new it.0 c.args.count mode it.1)
