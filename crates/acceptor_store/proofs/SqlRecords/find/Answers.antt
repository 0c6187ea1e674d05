use Rattle.std.proofs.Common.{refl}
use Rattle.acceptor_store.proofs.Words.{Content, IsSound}
use Rattle.acceptor_store.proofs.Failing.{linked_unread}
use Rattle.acceptor_store.proofs.Calls.{entered, value, same, kept, trust}
use Rattle.acceptor_store.proofs.Words.{Memory}
use Rattle.acceptor_store.proofs.SqlRecords.find.Goals as goal

pub returns-in-Ok-clause-value : goal.returns-in-Ok-clause-value
returns-in-Ok-clause-value g c =
    value g.S.Store g.met.S.Store.settled g.met.S.Store.stays (entered g.S.Store c.self.view_is c.self.inside.conn c.self.inside.was.value refl c.in-Some.is c.self.invariant c.if-not-self.false) c.find.new.conn c.find.ensures.survives (λ (x : Content). g.T.Answer.is_found c.in-Ok.found c.args.place x) c.in-Ok.ensures.value

pub returns-in-Ok-clause-sound : goal.returns-in-Ok-clause-sound
returns-in-Ok-clause-sound g c =
    value g.S.Store g.met.S.Store.settled g.met.S.Store.stays (entered g.S.Store c.self.view_is c.self.inside.conn c.self.inside.was.value refl c.in-Some.is c.self.invariant c.if-not-self.false) c.find.new.conn c.find.ensures.survives IsSound (λ clean x was. was.1.tables.sound)

pub returns-in-Ok-clause-kept : goal.returns-in-Ok-clause-kept
returns-in-Ok-clause-kept g c =
    same g.S.Store g.met.S.Store.settled g.met.S.Store.stays (entered g.S.Store c.self.view_is c.self.inside.conn c.self.inside.was.value refl c.in-Some.is c.self.invariant c.if-not-self.false) c.find.new.conn c.find.ensures.survives (λ clean. c.in-Ok.ensures.stays clean tt)

pub returns-in-Err-clause-kept : goal.returns-in-Err-clause-kept
returns-in-Err-clause-kept g c =
    kept g.S.Store g.met.S.Store.settled g.met.S.Store.stays (entered g.S.Store c.self.view_is c.self.inside.conn c.self.inside.was.value refl c.in-Some.is c.self.invariant c.if-not-self.false) c.find.new.conn c.find.ensures.survives g.row.T.Denot c.end-in-Err.result (λ harmless clean. c.in-Err.ensures.stays clean (c.end-in-Err.ensures.harmless harmless)) (λ x db was none. none x was)

pub returns-in-Ok-clause-trust : goal.returns-in-Ok-clause-trust
returns-in-Ok-clause-trust g c =
    trust g.S.Store g.met.S.Store.settled g.met.S.Store.stays (entered g.S.Store c.self.view_is c.self.inside.conn c.self.inside.was.value refl c.in-Some.is c.self.invariant c.if-not-self.false) c.find.new.conn c.find.ensures.survives _ _ _ _

pub returns-in-Err-clause-trust : goal.returns-in-Err-clause-trust
returns-in-Err-clause-trust g c =
    trust g.S.Store g.met.S.Store.settled g.met.S.Store.stays (entered g.S.Store c.self.view_is c.self.inside.conn c.self.inside.was.value refl c.in-Some.is c.self.invariant c.if-not-self.false) c.find.new.conn c.find.ensures.survives _ _ _ _

pub invariant_of-self-in-Err : goal.invariant_of-self-in-Err
invariant_of-self-in-Err g c =
    linked_unread g.S.Store c.self.inside.was.value c.find.new.conn c.in-Err.stop c.in-Some.is c.self.invariant c.if-not-self.false c.end-in-Err.ensures.up c.find.ensures.survives (λ clean leaves. c.in-Err.ensures.stays clean leaves)

pub invariant_of-self-in-Ok : goal.invariant_of-self-in-Ok
invariant_of-self-in-Ok g c =
    linked_unread g.S.Store c.self.inside.was.value c.find.new.conn Memory c.in-Some.is c.self.invariant c.if-not-self.false refl c.find.ensures.survives (λ clean _. c.in-Ok.ensures.stays clean tt)
