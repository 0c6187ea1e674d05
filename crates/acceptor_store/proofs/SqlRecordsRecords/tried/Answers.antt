use Rattle.std.proofs.Common.{refl}
use Rattle.acceptor_store.proofs.Calls.{value_known}
use Rattle.acceptor_store.proofs.SqlRecordsRecords.tried.Goals as goal

pub returns-clause-value : goal.returns-clause-value
returns-clause-value g c honest d holds =
    (value_known g.S.Store g.met.S.Store.settled g.met.S.Store.stays c.self.view_is c.self.inside.conn c.self.inside.was.value refl c.self.invariant c.if-not-self.false honest d holds).tries
