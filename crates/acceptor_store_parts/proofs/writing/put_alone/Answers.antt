use Rattle.std.proofs.Common.{subst, rules, SFits, w64}
use Rattle.acceptor_store_parts.proofs.Words.{to_z-of_z, IsValue, state, survives_weaker}
use Rattle.acceptor_store_parts.proofs.States.{tries, promises, votes, learns, made, commits}
use Rattle.acceptor_store_parts.proofs.writing.put_alone.Goals as goal

pub returns-in-Tried-clause-ok : goal.returns-in-Tried-clause-ok
returns-in-Tried-clause-ok g c clean =
    let fits : SFits w64 c.signed.result = search rules in
    rw c.in-Tried.is (made (tries c.in-Tried.ballot) (state g.S.Store c.args.conn.now) (state g.S.Store c.run.new.conn) c.run.result (rw (to_z-of_z, c.signed.ensures) at (c.run.ensures.ran clean)))

pub returns-in-Tried-clause-survives : goal.returns-in-Tried-clause-survives
returns-in-Tried-clause-survives g c =
    let fits : SFits w64 c.signed.result = search rules in
    let old = state g.S.Store c.args.conn.now in
    let new = state g.S.Store c.run.new.conn in
    rw c.in-Tried.is (survives_weaker old new _ _ (λ _ db. commits (tries c.in-Tried.ballot) old new db) (rw (to_z-of_z, c.signed.ensures) at c.run.ensures.survives))

pub returns-in-Promised-clause-ok : goal.returns-in-Promised-clause-ok
returns-in-Promised-clause-ok g c clean =
    let fits : SFits w64 c.signed-in-Promised.result = search rules in
    rw c.in-Promised.is (made (promises c.in-Promised.ballot) (state g.S.Store c.args.conn.now) (state g.S.Store c.run-in-Promised.new.conn) c.run-in-Promised.result (rw (to_z-of_z, c.signed-in-Promised.ensures) at (c.run-in-Promised.ensures.ran clean)))

pub returns-in-Promised-clause-survives : goal.returns-in-Promised-clause-survives
returns-in-Promised-clause-survives g c =
    let fits : SFits w64 c.signed-in-Promised.result = search rules in
    let old = state g.S.Store c.args.conn.now in
    let new = state g.S.Store c.run-in-Promised.new.conn in
    rw c.in-Promised.is (survives_weaker old new _ _ (λ _ db. commits (promises c.in-Promised.ballot) old new db) (rw (to_z-of_z, c.signed-in-Promised.ensures) at c.run-in-Promised.ensures.survives))

pub returns-in-Vote-clause-ok : goal.returns-in-Vote-clause-ok
returns-in-Vote-clause-ok g c clean =
    let at : SFits w64 c.signed_place.result = search rules in
    let fits : SFits w64 c.signed-in-Vote.result = search rules in
    rw c.in-Vote.is (made (votes c.in-Vote.place (record { ballot = c.in-Vote.ballot; value = c.in-Vote.value.now }) c.signed_place.ensures.fits) (state g.S.Store c.args.conn.now) (state g.S.Store c.run-in-Vote.new.conn) c.run-in-Vote.result
    (rw (to_z-of_z, to_z-of_z, c.signed_place.ensures.value, c.signed-in-Vote.ensures, c.as_slice.ensures.same) at (c.run-in-Vote.ensures.ran clean)))

pub returns-in-Vote-clause-survives : goal.returns-in-Vote-clause-survives
returns-in-Vote-clause-survives g c =
    let at : SFits w64 c.signed_place.result = search rules in
    let fits : SFits w64 c.signed-in-Vote.result = search rules in
    let old = state g.S.Store c.args.conn.now in
    let new = state g.S.Store c.run-in-Vote.new.conn in
    let crash = rw (to_z-of_z, to_z-of_z, c.signed_place.ensures.value, c.signed-in-Vote.ensures, c.as_slice.ensures.same) at c.run-in-Vote.ensures.survives in
    rw c.in-Vote.is (survives_weaker old new _ _ (λ _ db. commits (votes c.in-Vote.place (record { ballot = c.in-Vote.ballot; value = c.in-Vote.value.now }) c.signed_place.ensures.fits) old new db) crash)

pub returns-in-Learned-clause-ok : goal.returns-in-Learned-clause-ok
returns-in-Learned-clause-ok g c clean =
    let short = subst IsValue c.as_slice-in-Learned.ensures.same c.as_slice-in-Learned.ensures.fits in
    let at : SFits w64 c.signed_place-in-Learned.result = search rules in
    rw c.in-Learned.is (made (learns c.in-Learned.place c.in-Learned.value.now c.signed_place-in-Learned.ensures.fits short) (state g.S.Store c.args.conn.now) (state g.S.Store c.run-in-Learned.new.conn) c.run-in-Learned.result
    (rw (to_z-of_z, c.signed_place-in-Learned.ensures.value, c.as_slice-in-Learned.ensures.same) at (c.run-in-Learned.ensures.ran clean)))

pub returns-in-Learned-clause-survives : goal.returns-in-Learned-clause-survives
returns-in-Learned-clause-survives g c =
    let short = subst IsValue c.as_slice-in-Learned.ensures.same c.as_slice-in-Learned.ensures.fits in
    let at : SFits w64 c.signed_place-in-Learned.result = search rules in
    let old = state g.S.Store c.args.conn.now in
    let new = state g.S.Store c.run-in-Learned.new.conn in
    let crash = rw (to_z-of_z, c.signed_place-in-Learned.ensures.value, c.as_slice-in-Learned.ensures.same) at c.run-in-Learned.ensures.survives in
    rw c.in-Learned.is (survives_weaker old new _ _ (λ _ db. commits (learns c.in-Learned.place c.in-Learned.value.now c.signed_place-in-Learned.ensures.fits short) old new db) crash)
