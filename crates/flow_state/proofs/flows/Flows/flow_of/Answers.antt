use Rattle.std.proofs.Common.{Option, ap, ◌∙◌}
use Rattle.std.specs.Option.{option_map, option_and_then}
use Rattle.flow_state.specs.Rows.{Table, flow_of, lent_flow}
use Rattle.flow_state.proofs.Tables.{table_at}
use Rattle.flow_state.proofs.flows.Flows.flow_of.Goals as goal

pub returns-in-Some : goal.returns-in-Some
returns-in-Some c = c.flow_of.ensures ∙ ap (λ (o : Option Table). option_map lent_flow (option_and_then (λ t. flow_of t c.args.sid) o)) (c.in-Some.ensures.value ∙ table_at c.self.inside.tables.entries c.args.self.now c.args.ch c.self.invariant.ids c.self.invariant.unique c.self.view_is)

pub returns-in-None : goal.returns-in-None
returns-in-None c = ap (λ (o : Option Table). option_map lent_flow (option_and_then (λ t. flow_of t c.args.sid) o)) (c.in-None.ensures.value ∙ table_at c.self.inside.tables.entries c.args.self.now c.args.ch c.self.invariant.ids c.self.invariant.unique c.self.view_is)
