use Rattle.acceptor_store_parts.proofs.Words.{state, survives_then}
use Rattle.acceptor_store_parts.proofs.making.try_making.Goals as goal

pub returns-in-Err-clause-survives : goal.returns-in-Err-clause-survives
returns-in-Err-clause-survives g c =
    survives_then (state g.S.Store c.args.conn.now) (state g.S.Store c.run_making.new.conn) (state g.S.Store c.stop_for.new.conn) _ _ _ (λ _ db there. there) (λ _ db no. absurd no) c.run_making.ensures.survives c.stop_for.ensures.survives
