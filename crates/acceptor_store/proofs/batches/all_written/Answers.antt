use Rattle.std.proofs.Common.{◌+◌, ap, subst, sym, ◌∙◌, arith}
use Rattle.node_writes.proofs.Callers.{lead_once}
use Rattle.acceptor_store.proofs.Words.{AreNumbersOf, HasCleanDisk, ServesKnown, number_of, state, survives_then}
use Rattle.acceptor_store.proofs.Words.{survives_weaker}
use Rattle.acceptor_store.proofs.CountsKnown.{still_known}
use Rattle.acceptor_store.proofs.batches.all_written.Goals as goal

pub returns-in-Some-clause-value : goal.returns-in-Some-clause-value
returns-in-Some-clause-value g c clean x last was known led =
    let it = c.in-Some.ensures x known in
    let are = subst (AreNumbersOf c.in-Some.numbers) (lead_once c.args.batch.now.id c.args.batch.now.writes.now x it.0 last it.1 led) it.2 in
    record { tries = ap number_of c.at.ensures.ballots.0 ∙ are.tries; promises = ap number_of c.at.ensures.ballots.1 ∙ are.promises }

pub returns-in-Some-clause-ok : goal.returns-in-Some-clause-ok
returns-in-Some-clause-ok g c clean x was =
    let follows = c.in_ok-next.ensures.next c.args.owner was.0 was.1 in
    let it = c.in-Ok.ensures.ok clean c.args.owner was.0 x follows.0 was.2 in
    (it.0, it.1, subst (λ k. ServesKnown c.args.owner k (state g.S.Store c.put_rows.new.conn) it.0) (sym c.at.ensures.count) (was.0 + 1, follows.1, it.2))

pub returns-in-Some-clause-survives : goal.returns-in-Some-clause-survives
returns-in-Some-clause-survives g c =
    survives_weaker (state g.S.Store c.args.conn.now) (state g.S.Store c.put_rows.new.conn) _ _ (λ _ db wrote x was.
    let follows = c.in_ok-next.ensures.next c.args.owner was.0 was.1 in
    let it = wrote c.args.owner was.0 x follows.0 was.2 in
    (it.0, it.1, (was.0, was.1, it.2))) c.put_rows.ensures.survives

pub returns-in-Err-clause-survives : goal.returns-in-Err-clause-survives
returns-in-Err-clause-survives g c =
    survives_weaker (state g.S.Store c.args.conn.now) (state g.S.Store c.put_rows.new.conn) _ _ (λ _ db wrote x was.
    let follows = c.in_ok-next.ensures.next c.args.owner was.0 was.1 in
    let it = wrote c.args.owner was.0 x follows.0 was.2 in
    (it.0, it.1, (was.0, was.1, it.2))) c.put_rows.ensures.survives

pub returns-in-Ok-numbers_of-clause-value : goal.returns-in-Ok-numbers_of-clause-value
returns-in-Ok-numbers_of-clause-value g c clean x last was known led =
    let mid : HasCleanDisk (state g.S.Store c.put_rows.new.conn) = omega (arith, c.numbers_of.ensures.survives.clean, clean) in
    let follows = c.in_ok-next.ensures.next c.args.owner was.0 was.1 in
    let it = c.in-Ok.ensures.ok mid c.args.owner was.0 x follows.0 was.2 in
    subst (AreNumbersOf c.in-Ok-numbers_of.numbers) (lead_once c.args.batch.now.id c.args.batch.now.writes.now x it.0 last it.1 led) (c.in-Ok-numbers_of.ensures.value clean it.0 it.2.serves)

pub returns-in-Ok-numbers_of-clause-ok : goal.returns-in-Ok-numbers_of-clause-ok
returns-in-Ok-numbers_of-clause-ok g c clean x was =
    let mid : HasCleanDisk (state g.S.Store c.put_rows.new.conn) = omega (arith, c.numbers_of.ensures.survives.clean, clean) in
    let follows = c.in_ok-next.ensures.next c.args.owner was.0 was.1 in
    let it = c.in-Ok.ensures.ok mid c.args.owner was.0 x follows.0 was.2 in
    let still = still_known (state g.S.Store c.put_rows.new.conn) (state g.S.Store c.numbers_of.new.conn) (c.in-Ok-numbers_of.ensures.stays clean tt) c.args.owner c.in_ok-next.next it.0 (was.0 + 1, follows.1, it.2) in
    (it.0, it.1, subst (λ k. ServesKnown c.args.owner k (state g.S.Store c.numbers_of.new.conn) it.0) (sym c.in-Ok-numbers_of.ensures.count) still)

pub returns-in-Ok-numbers_of-clause-survives : goal.returns-in-Ok-numbers_of-clause-survives
returns-in-Ok-numbers_of-clause-survives g c =
    survives_then (state g.S.Store c.args.conn.now) (state g.S.Store c.put_rows.new.conn) (state g.S.Store c.numbers_of.new.conn) _ _ _ (λ _ db wrote x was.
    let follows = c.in_ok-next.ensures.next c.args.owner was.0 was.1 in
    let it = wrote c.args.owner was.0 x follows.0 was.2 in
    (it.0, it.1, (was.0, was.1, it.2))) (λ clean db none x was.
    let mid : HasCleanDisk (state g.S.Store c.put_rows.new.conn) = omega (arith, c.numbers_of.ensures.survives.clean, clean) in
    let follows = c.in_ok-next.ensures.next c.args.owner was.0 was.1 in
    let it = c.in-Ok.ensures.ok mid c.args.owner was.0 x follows.0 was.2 in
    absurd (none it.0 (c.args.owner, it.2.serves))) c.put_rows.ensures.survives c.numbers_of.ensures.survives

pub returns-in-Err-numbers_of-clause-survives : goal.returns-in-Err-numbers_of-clause-survives
returns-in-Err-numbers_of-clause-survives g c =
    survives_then (state g.S.Store c.args.conn.now) (state g.S.Store c.put_rows.new.conn) (state g.S.Store c.numbers_of.new.conn) _ _ _ (λ _ db wrote x was.
    let follows = c.in_ok-next.ensures.next c.args.owner was.0 was.1 in
    let it = wrote c.args.owner was.0 x follows.0 was.2 in
    (it.0, it.1, (was.0, was.1, it.2))) (λ clean db none x was.
    let mid : HasCleanDisk (state g.S.Store c.put_rows.new.conn) = omega (arith, c.numbers_of.ensures.survives.clean, clean) in
    let follows = c.in_ok-next.ensures.next c.args.owner was.0 was.1 in
    let it = c.in-Ok.ensures.ok mid c.args.owner was.0 x follows.0 was.2 in
    absurd (none it.0 (c.args.owner, it.2.serves))) c.put_rows.ensures.survives c.numbers_of.ensures.survives
