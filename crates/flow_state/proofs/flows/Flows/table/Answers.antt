use Rattle.std.proofs.Common.{◌∙◌}
use Rattle.flow_state.proofs.Tables.{table_at}
use Rattle.flow_state.proofs.flows.Flows.table.Goals as goal

pub returns : goal.returns
returns c = c.get.ensures.value ∙ table_at c.self.inside.tables.entries c.args.self.now c.args.ch c.self.invariant.ids c.self.invariant.unique c.self.view_is
