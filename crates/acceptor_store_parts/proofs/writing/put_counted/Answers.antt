use Rattle.std.proofs.Common.{inl, arith}
use Rattle.acceptor_store_parts.proofs.Words.{HasCleanDisk, state, survives_then}
use Rattle.acceptor_store_parts.proofs.Kept.{still_at}
use Rattle.acceptor_store_parts.proofs.writing.put_counted.Goals as goal

pub returns-in-Err-clause-survives : goal.returns-in-Err-clause-survives
returns-in-Err-clause-survives g c =
    survives_then (state g.S.Store c.args.conn.now) (state g.S.Store c.run_counted.new.conn) (state g.S.Store c.stop_for.new.conn) _ _ _ (λ _ db there. there) (λ _ db no. absurd no) c.run_counted.ensures.survives c.stop_for.ensures.survives

pub returns-in-Err-clause-err : goal.returns-in-Err-clause-err
returns-in-Err-clause-err g c clean leaves owner n x was =
    let mid = state g.S.Store c.run_counted.new.conn in
    let sure : HasCleanDisk mid = omega (arith, c.stop_for.ensures.survives.clean, clean) in
    let up = c.stop_for.ensures.up clean leaves in
    still_at owner n mid (state g.S.Store c.stop_for.new.conn) x (c.in-Err.ensures.err sure up.0.was_open owner n x was) (inl up) up.0.is_open
