use Rattle.std.proofs.Common.{refl}
use Rattle.acceptor_store.proofs.Words.{MayHaveCountedAll, state}
use Rattle.acceptor_store.proofs.AllWritten.{all_written, linked_all, none_written}
use Rattle.acceptor_store.proofs.Calls.{entered, trust}
use Rattle.acceptor_store.proofs.Failing.{linked_failed}
use Rattle.acceptor_store.proofs.SqlRecords.put_all.Goals as goal

pub invariant_of-self-in-Ok : goal.invariant_of-self-in-Ok
invariant_of-self-in-Ok g c =
    linked_all g.S.Store c.self.inside.was.value c.all_written.new.conn c.args.id c.args.writes.now c.in-Some.is c.self.invariant c.if-not-self.false c.all_written.ensures.survives c.in-Ok.ensures.ok c.in-Ok.ensures.value

pub returns-in-Ok-clause-trust : goal.returns-in-Ok-clause-trust
returns-in-Ok-clause-trust g c =
    trust g.S.Store g.met.S.Store.settled g.met.S.Store.stays (entered g.S.Store c.self.view_is c.self.inside.conn c.self.inside.was.value refl c.in-Some.is c.self.invariant c.if-not-self.false) c.all_written.new.conn c.all_written.ensures.survives _ _ _ _

pub returns-in-Err-clause-trust : goal.returns-in-Err-clause-trust
returns-in-Err-clause-trust g c =
    trust g.S.Store g.met.S.Store.settled g.met.S.Store.stays (entered g.S.Store c.self.view_is c.self.inside.conn c.self.inside.was.value refl c.in-Some.is c.self.invariant c.if-not-self.false) c.all_written.new.conn c.all_written.ensures.survives _ _ _ _

pub returns-in-Ok-clause-writes : goal.returns-in-Ok-clause-writes
returns-in-Ok-clause-writes g c =
    all_written g.S.Store g.met.S.Store.settled g.met.S.Store.stays (entered g.S.Store c.self.view_is c.self.inside.conn c.self.inside.was.value refl c.in-Some.is c.self.invariant c.if-not-self.false) c.all_written.new.conn c.args.id c.args.writes.now c.all_written.ensures.survives _ _ c.in-Ok.ensures.ok

pub returns-in-Err-clause-writes : goal.returns-in-Err-clause-writes
returns-in-Err-clause-writes g c =
    none_written g.S.Store g.met.S.Store.settled g.met.S.Store.stays (entered g.S.Store c.self.view_is c.self.inside.conn c.self.inside.was.value refl c.in-Some.is c.self.invariant c.if-not-self.false) c.all_written.new.conn c.args.id c.args.writes.now c.all_written.ensures.survives c.end-in-Err.result
    (λ harmless clean. c.in-Err.ensures.err clean (c.end-in-Err.ensures.harmless harmless))

pub invariant_of-self-in-Err : goal.invariant_of-self-in-Err
invariant_of-self-in-Err g c =
    linked_failed g.S.Store c.self.inside.was.value c.all_written.new.conn c.in-Err.stop c.in-Some.is c.self.invariant c.if-not-self.false c.end-in-Err.ensures.up
    (MayHaveCountedAll c.self.inside.owner c.self.inside.numbers.count c.args.id c.args.writes.now (state g.S.Store c.in-Some.conn)) (λ db wrote x was. let all = wrote x was in ∣ (all.0, all.2.2.0) ∣₁) c.all_written.ensures.survives (λ clean leaves. c.in-Err.ensures.err clean leaves)
