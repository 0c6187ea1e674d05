use Rattle.told_writes.proofs.Told.{leads_on, written}
use Rattle.told_writes.proofs.laws.told_is_written.Goals as goal

pub returns-clause-written : goal.returns-clause-written
returns-clause-written c = written

pub returns-clause-leads : goal.returns-clause-leads
returns-clause-leads c = leads_on
