use Rattle.std.proofs.Common.{◌≡◌, IfSome, sym, ap, subst, ◌∙◌, arith}
use Rattle.acceptor_store.proofs.Words.{number_of, rows_from, Content, HasCleanDisk, state, survives_then, ServesAs}
use Rattle.acceptor_store.proofs.Words.{all_rows, serves_as}
use Rattle.acceptor_store.proofs.CountsKnown.{still_for}
use Rattle.acceptor_store.proofs.Words.{err_from_is_err_and}
use Rattle.acceptor_store.proofs.known.ballots_in.Goals as goal

pub returns-clause-value : goal.returns-clause-value
returns-clause-value g c clean d was =
    let before : HasCleanDisk (state g.S.Store c.read_numbers.new.conn) = omega (arith, c.find.ensures.survives.clean, clean) in
    let mid = still_for (state g.S.Store c.args.conn.now) (state g.S.Store c.read_numbers.new.conn) (c.in_ok-numbers.ensures.stays before tt) c.args.owner d was in
    let told = subst (λ o. IfSome o (λ r. (x : Content) → ServesAs c.version_of_owner.result (state g.S.Store c.args.conn.now) x → (number_of r.0 ≡ x.tried) × (number_of r.1 ≡ x.row))) c.in-Some.is (c.in_ok-numbers.ensures.value before) in
    let ours = subst (λ v. ServesAs v (state g.S.Store c.args.conn.now) d) (sym c.version_of_owner.ensures) (serves_as c.args.owner (state g.S.Store c.args.conn.now) d was) in
    let one : c.in-Some-new.first ≡ 1 = (let e = c.in-Some-new.ensures.some in cc) in
    let votes = c.in_ok-votes.ensures.value clean d (c.args.owner, mid) ∙ (ap (rows_from d.votes) one ∙ all_rows 1 1 d.votes (omega arith) was.tables.sound.0) in
    ((told d ours).0, (told d ours).1, votes)

pub returns-clause-survives : goal.returns-clause-survives
returns-clause-survives g c =
    survives_then (state g.S.Store c.args.conn.now) (state g.S.Store c.read_numbers.new.conn) (state g.S.Store c.find.new.conn) _ _ _ (λ _ db none. none)
    (λ clean db none x was.
    let before : HasCleanDisk (state g.S.Store c.read_numbers.new.conn) = omega (arith, c.find.ensures.survives.clean, clean) in
    none x (was.0, still_for (state g.S.Store c.args.conn.now) (state g.S.Store c.read_numbers.new.conn) (c.in_ok-numbers.ensures.stays before tt) was.0 x was.1)) c.read_numbers.ensures.survives c.find.ensures.survives

pub returns-in_err-votes-clause-survives : goal.returns-in_err-votes-clause-survives
returns-in_err-votes-clause-survives g c =
    survives_then (state g.S.Store c.args.conn.now) (state g.S.Store c.read_numbers.new.conn) (state g.S.Store c.find.new.conn) _ _ _ (λ _ db none. none)
    (λ clean db none x was.
    let before : HasCleanDisk (state g.S.Store c.read_numbers.new.conn) = omega (arith, c.find.ensures.survives.clean, clean) in
    none x (was.0, still_for (state g.S.Store c.args.conn.now) (state g.S.Store c.read_numbers.new.conn) (c.in_ok-numbers.ensures.stays before tt) was.0 x was.1)) c.read_numbers.ensures.survives c.find.ensures.survives

pub returns-in_err-numbers-clause-stays : goal.returns-in_err-numbers-clause-stays
returns-in_err-numbers-clause-stays g c clean = let p = err_from_is_err_and c.from_residual.result c.from_residual.ensures.1 in rw (p.1, p.2) (c.in_err-numbers.ensures.stays clean)

pub returns-in_err-votes-clause-stays : goal.returns-in_err-votes-clause-stays
returns-in_err-votes-clause-stays g c clean =
    let before : HasCleanDisk (state g.S.Store c.read_numbers.new.conn) = omega (arith, c.find.ensures.survives.clean, clean) in
    let p = err_from_is_err_and c.from_residual-in_err-votes.result c.from_residual-in_err-votes.ensures.1 in
    rw (p.1, p.2) (λ opened owner n x was. c.in_err-votes.ensures.stays clean opened owner n x (c.in_ok-numbers.ensures.stays before tt owner n x was))

pub returns-clause-stays : goal.returns-clause-stays
returns-clause-stays g c clean _ owner n x was =
    let before : HasCleanDisk (state g.S.Store c.read_numbers.new.conn) = omega (arith, c.find.ensures.survives.clean, clean) in
    c.in_ok-votes.ensures.stays clean tt owner n x (c.in_ok-numbers.ensures.stays before tt owner n x was)
