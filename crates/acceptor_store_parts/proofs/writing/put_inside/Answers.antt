use Rattle.std.proofs.Common.{subst, rules, SFits, w64}
use Rattle.acceptor_store_parts.proofs.Words.{to_z-of_z, IsValue, state}
use Rattle.acceptor_store_parts.proofs.States.{tries, promises, votes, learns, put_inside}
use Rattle.acceptor_store_parts.proofs.writing.put_inside.Goals as goal

pub returns-in-Tried-clause-put : goal.returns-in-Tried-clause-put
returns-in-Tried-clause-put g c clean inside =
    let fits : SFits w64 c.signed.result = search rules in
    rw c.in-Tried.is (put_inside (tries c.in-Tried.ballot) (state g.S.Store c.args.tx.now.conn.now) (state g.S.Store c.run_inside.new.tx.conn.now) c.run_inside.result (rw (to_z-of_z, c.signed.ensures) at (c.run_inside.ensures.ran clean inside)) (c.run_inside.ensures.inside clean inside))

pub returns-in-Promised-clause-put : goal.returns-in-Promised-clause-put
returns-in-Promised-clause-put g c clean inside =
    let fits : SFits w64 c.signed-in-Promised.result = search rules in
    rw c.in-Promised.is (put_inside (promises c.in-Promised.ballot) (state g.S.Store c.args.tx.now.conn.now) (state g.S.Store c.run_inside-in-Promised.new.tx.conn.now) c.run_inside-in-Promised.result
    (rw (to_z-of_z, c.signed-in-Promised.ensures) at (c.run_inside-in-Promised.ensures.ran clean inside)) (c.run_inside-in-Promised.ensures.inside clean inside))

pub returns-in-Vote-clause-put : goal.returns-in-Vote-clause-put
returns-in-Vote-clause-put g c clean inside =
    let at : SFits w64 c.signed_place.result = search rules in
    let fits : SFits w64 c.signed-in-Vote.result = search rules in
    rw c.in-Vote.is (put_inside (votes c.in-Vote.place (record { ballot = c.in-Vote.ballot; value = c.in-Vote.value.now }) c.signed_place.ensures.fits) (state g.S.Store c.args.tx.now.conn.now) (state g.S.Store c.run_inside-in-Vote.new.tx.conn.now) c.run_inside-in-Vote.result
    (rw (to_z-of_z, to_z-of_z, c.signed_place.ensures.value, c.signed-in-Vote.ensures, c.as_slice.ensures.same) at (c.run_inside-in-Vote.ensures.ran clean inside)) (c.run_inside-in-Vote.ensures.inside clean inside))

pub returns-in-Learned-clause-put : goal.returns-in-Learned-clause-put
returns-in-Learned-clause-put g c clean inside =
    let short = subst IsValue c.as_slice-in-Learned.ensures.same c.as_slice-in-Learned.ensures.fits in
    let at : SFits w64 c.signed_place-in-Learned.result = search rules in
    rw c.in-Learned.is (put_inside (learns c.in-Learned.place c.in-Learned.value.now c.signed_place-in-Learned.ensures.fits short) (state g.S.Store c.args.tx.now.conn.now) (state g.S.Store c.run_inside-in-Learned.new.tx.conn.now) c.run_inside-in-Learned.result
    (rw (to_z-of_z, c.signed_place-in-Learned.ensures.value, c.as_slice-in-Learned.ensures.same) at (c.run_inside-in-Learned.ensures.ran clean inside)) (c.run_inside-in-Learned.ensures.inside clean inside))
