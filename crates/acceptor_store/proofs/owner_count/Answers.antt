use Rattle.acceptor_store.proofs.Words.{IfSome_then, state}
use Rattle.acceptor_store.proofs.Reopening.{stays_known}
use Rattle.acceptor_store.proofs.owner_count.Goals as goal

pub returns-in-Ok-clause-serves : goal.returns-in-Ok-clause-serves
returns-in-Ok-clause-serves g c clean has =
    IfSome_then c.count_beside.result (rw c.as_slice.ensures.value at c.count_beside.ensures) (λ count is.
    stays_known (state g.S.Store c.args.conn.now) (state g.S.Store c.query_facts.new.conn) c.args.owner c.in-Ok.rows.items count (c.in-Ok.ensures.same clean has) (λ owner n at. c.in-Ok.ensures.value clean owner n has at) is)
