use Rattle.std.proofs.Common.{◌≡◌, ◌++◌, map, take, drop}
use Rattle.std.specs.List.{AllByRecursion}
use Rattle.grant_machine_parts.specs.Cutting.{pass}
use Rattle.flow_state.specs.View.{flow_view}
use Rattle.grant_machine_parts.specs.Lent.{IsLent, given_to}
use Rattle.grant_machine_parts.proofs.services.serve.Given as goal

-- the flows from this one on, after those before it
abbrev pub invariant-loop-flow : goal.invariant-loop-flow
invariant-loop-flow l = record {
  span : l.filling.span ≡ l.fn.filling.span;
  rest : drop l.flow-index l.flows ≡ drop l.flow-index l.fn.flows;
  placements : (pass l.fn.filling.span (given_to l.service l.channel) (map flow_view l.fn.flows) l.fn.filling.placements).placements
      ≡ (pass l.fn.filling.span (given_to l.service l.channel) (map flow_view (drop l.flow-index l.fn.flows)) l.filling.placements).placements;
  flows : (pass l.fn.filling.span (given_to l.service l.channel) (map flow_view l.fn.flows) l.fn.filling.placements).flows
      ≡ map flow_view (take l.flow-index l.flows) ++ (pass l.fn.filling.span (given_to l.service l.channel) (map flow_view (drop l.flow-index l.fn.flows)) l.filling.placements).flows;
  lent : AllByRecursion IsLent l.flows;
}
