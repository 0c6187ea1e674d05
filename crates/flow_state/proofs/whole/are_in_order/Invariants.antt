use Rattle.std.proofs.Common.{◌≡◌, ◌+◌, drop}
use Rattle.flow_state.specs.Tests.{are_in_order}
use Rattle.flow_state.proofs.whole.are_in_order.Given as goal

-- what is left decides
abbrev pub invariant-loop-place : goal.invariant-loop-place
invariant-loop-place l = are_in_order 1 l.leases ≡ are_in_order (l.place + 1) (drop l.place l.leases)
