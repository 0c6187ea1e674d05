use Rattle.std.proofs.Common.{refl}
use Rattle.acceptor.specs.Content.Write.{Tries}
use Rattle.acceptor_store.proofs.Copying.{made_so}
use Rattle.acceptor_store.proofs.batches.copy_tried.Goals as goal

pub returns-in-Ok : goal.returns-in-Ok
returns-in-Ok c = made_so c.args.records.now c.put_tried.new.self (Tries c.args.ballot) (c.in-Ok.ensures.writes refl).ok
