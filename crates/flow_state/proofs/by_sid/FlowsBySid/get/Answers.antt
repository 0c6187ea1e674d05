use Rattle.std.proofs.Common.{ap, ◌∙◌}
use Rattle.flow_state.specs.StoredFlows.{flow_at}
use Rattle.flow_state.proofs.BySid.{found_now}
use Rattle.flow_state.proofs.by_sid.FlowsBySid.get.Goals as goal

pub returns : goal.returns
returns c =
    c.flow_at.ensures ∙ ap (flow_at c.self.inside.places.entries) c.place_of.ensures ∙ found_now c.self.inside c.args.self.now c.self.invariant c.self.view_is c.args.sid
