use Rattle.grant_machine.proofs.Standing.{reached_firm}
use Rattle.grant_machine.proofs.machine.Machine.flows.Goals as goal

pub returns-clause-firm : goal.returns-clause-firm
returns-clause-firm c = reached_firm c.self.inside.flows c.self.invariant
