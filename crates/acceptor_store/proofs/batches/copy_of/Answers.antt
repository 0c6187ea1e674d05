use Rattle.std.proofs.Common.{◌∙◌, arith}
use Rattle.acceptor_store.proofs.Words.{HasCleanDisk, IfOk-weaker, state, survives_then}
use Rattle.acceptor_store.proofs.CountsKnown.{still_for}
use Rattle.acceptor_store.proofs.Words.{err_from_is_err_and}
use Rattle.acceptor_store.proofs.batches.copy_of.Goals as goal

pub returns-clause-value : goal.returns-clause-value
returns-clause-value g c clean =
    let mid : HasCleanDisk (state g.S.Store c.ballots_in.new.conn) = omega (arith, c.all_learned.ensures.survives.clean, clean) in
    IfOk-weaker c.of_rows.result _ _ (λ made equal x was.
    let it = c.in_ok-tried.ensures.value mid x was in
    let still = still_for (state g.S.Store c.args.conn.now) (state g.S.Store c.ballots_in.new.conn) (c.in_ok-tried.ensures.stays mid tt) c.args.owner x was in
    equal x was.tables.sound it.0 it.1 (c.rows.ensures ∙ it.2) (c.as_slice.ensures.value ∙ c.in_ok-learned.ensures.value clean x (c.args.owner, still))) c.of_rows.ensures

pub returns-clause-survives : goal.returns-clause-survives
returns-clause-survives g c =
    survives_then (state g.S.Store c.args.conn.now) (state g.S.Store c.ballots_in.new.conn) (state g.S.Store c.all_learned.new.conn) _ _ _ (λ _ db none. none)
    (λ clean db none x was.
    let mid : HasCleanDisk (state g.S.Store c.ballots_in.new.conn) = omega (arith, c.all_learned.ensures.survives.clean, clean) in
    none x (was.0, still_for (state g.S.Store c.args.conn.now) (state g.S.Store c.ballots_in.new.conn) (c.in_ok-tried.ensures.stays mid tt) was.0 x was.1)) c.ballots_in.ensures.survives c.all_learned.ensures.survives

pub returns-in_err-learned-clause-survives : goal.returns-in_err-learned-clause-survives
returns-in_err-learned-clause-survives g c =
    survives_then (state g.S.Store c.args.conn.now) (state g.S.Store c.ballots_in.new.conn) (state g.S.Store c.all_learned.new.conn) _ _ _ (λ _ db none. none)
    (λ clean db none x was.
    let mid : HasCleanDisk (state g.S.Store c.ballots_in.new.conn) = omega (arith, c.all_learned.ensures.survives.clean, clean) in
    none x (was.0, still_for (state g.S.Store c.args.conn.now) (state g.S.Store c.ballots_in.new.conn) (c.in_ok-tried.ensures.stays mid tt) was.0 x was.1)) c.ballots_in.ensures.survives c.all_learned.ensures.survives

pub returns-in_err-tried-clause-stays : goal.returns-in_err-tried-clause-stays
returns-in_err-tried-clause-stays g c clean = let p = err_from_is_err_and c.from_residual.result c.from_residual.ensures.1 in rw (p.1, p.2) (c.in_err-tried.ensures.stays clean)

pub returns-in_err-learned-clause-stays : goal.returns-in_err-learned-clause-stays
returns-in_err-learned-clause-stays g c clean =
    let mid : HasCleanDisk (state g.S.Store c.ballots_in.new.conn) = omega (arith, c.all_learned.ensures.survives.clean, clean) in
    let p = err_from_is_err_and c.from_residual-in_err-learned.result c.from_residual-in_err-learned.ensures.1 in
    rw (p.1, p.2) (λ opened owner n x was. c.in_err-learned.ensures.stays clean opened owner n x (c.in_ok-tried.ensures.stays mid tt owner n x was))

pub returns-clause-stays : goal.returns-clause-stays
returns-clause-stays g c clean _ owner n x was =
    let mid : HasCleanDisk (state g.S.Store c.ballots_in.new.conn) = omega (arith, c.all_learned.ensures.survives.clean, clean) in
    c.in_ok-learned.ensures.stays clean tt owner n x (c.in_ok-tried.ensures.stays mid tt owner n x was)
