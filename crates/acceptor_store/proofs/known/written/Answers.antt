use Rattle.std.proofs.Common.{ap, ◌∙◌, ◌+◌, Some, arith, sym, subst}
use Rattle.acceptor_store.proofs.Words.{HasCleanDisk, ServesKnown, after_write, err_from_is_err_and, number_of, state}
use Rattle.acceptor_store.proofs.Words.{survives_then, survives_weaker}
use Rattle.acceptor_store.proofs.CountsKnown.{still_known}
use Rattle.acceptor_store_parts.specs.Asked.{write_of}
use Rattle.acceptor_store.proofs.known.written.Goals as goal

pub returns-clause-value : goal.returns-clause-value
returns-clause-value g c clean x was known =
    let it = c.in_ok-numbers.ensures.value (omega (arith, c.put_row.ensures.survives.clean, clean)) x was known in
    record { tries = ap number_of c.at.ensures.ballots.0 ∙ it.tries; promises = ap number_of c.at.ensures.ballots.1 ∙ it.promises }

pub returns-clause-ok : goal.returns-clause-ok
returns-clause-ok g c clean x was =
    let mid : HasCleanDisk (state g.S.Store c.numbers_with.new.conn) = omega (arith, c.put_row.ensures.survives.clean, clean) in
    let it = still_known (state g.S.Store c.args.conn.now) (state g.S.Store c.numbers_with.new.conn) (c.in_ok-numbers.ensures.stays mid tt) c.args.owner c.args.before.count x was in
    let follows = c.in_ok-next.ensures.next c.args.owner it.0 it.1 in
    let serves = c.in_ok-put_row.ensures.ok clean c.args.owner it.0 x follows.0 it.2 in
    subst (λ k. ServesKnown c.args.owner k (state g.S.Store c.put_row.new.conn) (after_write x (Some (write_of c.args.put.now)))) (sym c.at.ensures.count) (it.0 + 1, follows.1, serves)

pub returns-clause-survives : goal.returns-clause-survives
returns-clause-survives g c =
    survives_then (state g.S.Store c.args.conn.now) (state g.S.Store c.numbers_with.new.conn) (state g.S.Store c.put_row.new.conn) _ _ _ (λ _ db none x was. absurd (none x (c.args.owner, was.2.serves)))
    (λ clean db wrote x was.
    let mid : HasCleanDisk (state g.S.Store c.numbers_with.new.conn) = omega (arith, c.put_row.ensures.survives.clean, clean) in
    let it = still_known (state g.S.Store c.args.conn.now) (state g.S.Store c.numbers_with.new.conn) (c.in_ok-numbers.ensures.stays mid tt) c.args.owner c.args.before.count x was in
    let follows = c.in_ok-next.ensures.next c.args.owner it.0 it.1 in
    (it.0, it.1, wrote c.args.owner it.0 x follows.0 it.2)) c.numbers_with.ensures.survives c.put_row.ensures.survives

pub returns-in_err-put_row-clause-survives : goal.returns-in_err-put_row-clause-survives
returns-in_err-put_row-clause-survives g c =
    survives_then (state g.S.Store c.args.conn.now) (state g.S.Store c.numbers_with.new.conn) (state g.S.Store c.put_row.new.conn) _ _ _ (λ _ db none x was. absurd (none x (c.args.owner, was.2.serves)))
    (λ clean db wrote x was.
    let mid : HasCleanDisk (state g.S.Store c.numbers_with.new.conn) = omega (arith, c.put_row.ensures.survives.clean, clean) in
    let it = still_known (state g.S.Store c.args.conn.now) (state g.S.Store c.numbers_with.new.conn) (c.in_ok-numbers.ensures.stays mid tt) c.args.owner c.args.before.count x was in
    let follows = c.in_ok-next.ensures.next c.args.owner it.0 it.1 in
    (it.0, it.1, wrote c.args.owner it.0 x follows.0 it.2)) c.numbers_with.ensures.survives c.put_row.ensures.survives

pub returns-in_err-numbers-clause-err : goal.returns-in_err-numbers-clause-err
returns-in_err-numbers-clause-err g c clean =
    let p = err_from_is_err_and c.from_residual-in_err-numbers.result c.from_residual-in_err-numbers.ensures.1 in
    rw (p.1, p.2) (λ leaves. c.in_err-numbers.ensures.stays clean leaves)

pub returns-in_err-numbers-clause-survives : goal.returns-in_err-numbers-clause-survives
returns-in_err-numbers-clause-survives g c =
    survives_weaker (state g.S.Store c.args.conn.now) (state g.S.Store c.numbers_with.new.conn) _ _ (λ _ db none x was. absurd (none x (c.args.owner, was.2.serves))) c.numbers_with.ensures.survives

pub returns-in_err-put_row-clause-err : goal.returns-in_err-put_row-clause-err
returns-in_err-put_row-clause-err g c clean =
    let mid : HasCleanDisk (state g.S.Store c.numbers_with.new.conn) = omega (arith, c.put_row.ensures.survives.clean, clean) in
    let p = err_from_is_err_and c.from_residual-in_err-put_row.result c.from_residual-in_err-put_row.ensures.1 in
    rw (p.1, p.2) (λ leaves owner n x was. c.in_err-put_row.ensures.err clean leaves owner n x (c.in_ok-numbers.ensures.stays mid tt owner n x was))
