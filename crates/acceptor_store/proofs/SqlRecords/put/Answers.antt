use Rattle.std.proofs.Common.{refl}
use Rattle.acceptor_store_parts.specs.Asked.{write_of}
use Rattle.acceptor_store.proofs.Failing.{linked_unwritten}
use Rattle.acceptor_store.proofs.Calls.{entered, written, unwritten, trust, linked_made}
use Rattle.acceptor_store.proofs.SqlRecords.put.Goals as goal

pub invariant_of-self-in-Ok : goal.invariant_of-self-in-Ok
invariant_of-self-in-Ok g c =
    linked_made g.S.Store c.self.inside.was.value c.written.new.conn (write_of c.args.put.now) c.in-Some.is c.self.invariant c.if-not-self.false c.written.ensures.survives c.in-Ok.ensures.ok c.in-Ok.ensures.value

pub returns-in-Ok-clause-trust : goal.returns-in-Ok-clause-trust
returns-in-Ok-clause-trust g c =
    trust g.S.Store g.met.S.Store.settled g.met.S.Store.stays (entered g.S.Store c.self.view_is c.self.inside.conn c.self.inside.was.value refl c.in-Some.is c.self.invariant c.if-not-self.false) c.written.new.conn c.written.ensures.survives _ _ _ _

pub returns-in-Err-clause-trust : goal.returns-in-Err-clause-trust
returns-in-Err-clause-trust g c =
    trust g.S.Store g.met.S.Store.settled g.met.S.Store.stays (entered g.S.Store c.self.view_is c.self.inside.conn c.self.inside.was.value refl c.in-Some.is c.self.invariant c.if-not-self.false) c.written.new.conn c.written.ensures.survives _ _ _ _

pub returns-in-Ok-clause-writes : goal.returns-in-Ok-clause-writes
returns-in-Ok-clause-writes g c =
    written g.S.Store g.met.S.Store.settled g.met.S.Store.stays (entered g.S.Store c.self.view_is c.self.inside.conn c.self.inside.was.value refl c.in-Some.is c.self.invariant c.if-not-self.false) c.written.new.conn (write_of c.args.put.now) c.written.ensures.survives _ _ c.in-Ok.ensures.ok

pub returns-in-Err-clause-writes : goal.returns-in-Err-clause-writes
returns-in-Err-clause-writes g c =
    unwritten g.S.Store g.met.S.Store.settled g.met.S.Store.stays (entered g.S.Store c.self.view_is c.self.inside.conn c.self.inside.was.value refl c.in-Some.is c.self.invariant c.if-not-self.false) c.written.new.conn (write_of c.args.put.now) c.written.ensures.survives c.end-in-Err.result
    (λ harmless clean. c.in-Err.ensures.err clean (c.end-in-Err.ensures.harmless harmless))

pub invariant_of-self-in-Err : goal.invariant_of-self-in-Err
invariant_of-self-in-Err g c =
    linked_unwritten g.S.Store c.self.inside.was.value c.written.new.conn c.in-Err.stop c.in-Some.is c.self.invariant c.if-not-self.false c.end-in-Err.ensures.up (write_of c.args.put.now) c.written.ensures.survives (λ clean leaves. c.in-Err.ensures.err clean leaves)
