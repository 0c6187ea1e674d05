use Rattle.std.proofs.Common.{refl}
use Rattle.script_text.proofs.plan.read_table.Goals as goal

pub returns-in-None-clause-fault : goal.returns-in-None-clause-fault
returns-in-None-clause-fault c = (0, refl, rw (← c.in-None.ensures) refl)
