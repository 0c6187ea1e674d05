use Rattle.std.proofs.Common.{ap, sym, ◌∙◌}
use Rattle.std.specs.Option.{option_map}
use Rattle.flow_state.specs.Rows.{Table, lent_flow, flow_of}
use Rattle.flow_state.proofs.Stored.{flow_found, lent_found}
use Rattle.flow_state.proofs.table.ChannelTable.flow_of.Goals as goal

pub returns : goal.returns
returns c =
    c.get.ensures ∙ sym (lent_found c.self.inside.flows.entries c.args.sid c.self.invariant.flows)
    ∙ ap (option_map lent_flow) (sym (flow_found c.self.inside.flows.entries c.args.sid c.self.invariant.flows) ∙ ap (λ (t : Table). flow_of t c.args.sid) c.self.view_is)
