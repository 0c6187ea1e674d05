use Rattle.flow_state.proofs.Adopted.{firm_after}
use Rattle.flow_state.proofs.flows.Flows.adopt.Goals as goal

pub returns-clause-firm : goal.returns-clause-firm
returns-clause-firm c = firm_after c.adopt.result c.self.inside.tables.entries c.adopt.new.tables.entries c.args.self.now c.args.table.now c.self.view_is c.adopt.ensures.ok
