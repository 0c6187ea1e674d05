use Rattle.std.proofs.Common.{◌≡◌, map, take}
use Rattle.flow_state.specs.View.{flow_view}
use Rattle.flow_state.proofs.at_channel.put_flows.Given as goal

abbrev pub invariant-loop-flow : goal.invariant-loop-flow
invariant-loop-flow l = l.table ≡ record l.fn.table { flows = map flow_view (take l.flow-index l.flows) }
