use Rattle.std.proofs.Common.{inl, arith}
use Rattle.acceptor_store_parts.proofs.Words.{HasCleanDisk, state}
use Rattle.acceptor_store_parts.proofs.Kept.{failed_keeps, still_at}
use Rattle.acceptor_store_parts.proofs.run.Goals as goal

pub returns-in-Err-clause-err : goal.returns-in-Err-clause-err
returns-in-Err-clause-err g c clean leaves owner n x was =
    let old = state g.S.Store c.args.conn.now in
    let mid = state g.S.Store c.execute.new.self in
    let sure : HasCleanDisk mid = omega (arith, c.stop_for.ensures.survives.clean, clean) in
    let up = c.stop_for.ensures.up clean leaves in
    let there = still_at owner n old mid x was (failed_keeps c.args.sql.now _ old mid c.in-Err.error (c.in-Err.ensures.runs sure)) up.0.was_open in
    still_at owner n mid (state g.S.Store c.stop_for.new.conn) x there (inl up) up.0.is_open
