use Rattle.std.proofs.Common.{Option, ap, ◌∙◌}
use Rattle.std.specs.Option.{option_map, option_and_then}
use Rattle.std.specs.Prelude.{slice_get}
use Rattle.flow_state.specs.Rows.{Table, lent_flow}
use Rattle.flow_state.proofs.Tables.{table_at}
use Rattle.flow_state.proofs.flows.Flows.flow.Goals as goal

pub returns-in-Some-clause-row : goal.returns-in-Some-clause-row
returns-in-Some-clause-row c = c.flow.ensures.row ∙ ap (λ (o : Option Table). option_map lent_flow (option_and_then (λ t. slice_get t.flows c.args.k) o)) (c.in-Some.ensures.value ∙ table_at c.self.inside.tables.entries c.args.self.now c.args.ch c.self.invariant.ids c.self.invariant.unique c.self.view_is)

pub returns-in-None-clause-row : goal.returns-in-None-clause-row
returns-in-None-clause-row c = ap (λ (o : Option Table). option_map lent_flow (option_and_then (λ t. slice_get t.flows c.args.k) o)) (c.in-None.ensures.value ∙ table_at c.self.inside.tables.entries c.args.self.now c.args.ch c.self.invariant.ids c.self.invariant.unique c.self.view_is)
