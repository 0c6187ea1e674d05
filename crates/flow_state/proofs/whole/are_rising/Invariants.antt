use Rattle.std.proofs.Common.{◌≡◌, drop}
use Rattle.flow_state.specs.Tests.{are_rising}
use Rattle.flow_state.proofs.whole.are_rising.Given as goal

-- what is left decides
abbrev pub invariant-loop-flow : goal.invariant-loop-flow
invariant-loop-flow l = are_rising 0 l.flows ≡ are_rising l.low (drop l.flow-index l.flows)
