use Rattle.std.proofs.Common.{refl}
use Rattle.acceptor.specs.Content.Write.{Promises}
use Rattle.acceptor_store.proofs.Copying.{made_so}
use Rattle.acceptor_store.proofs.batches.copy_row.Goals as goal

pub returns-in-Ok : goal.returns-in-Ok
returns-in-Ok c = made_so c.args.records.now c.put_promised.new.self (Promises c.args.ballot) (c.in-Ok.ensures.writes refl).ok
