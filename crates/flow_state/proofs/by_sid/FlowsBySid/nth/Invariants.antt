use Rattle.std.proofs.Common.{◌≡◌, drop, slice_get}
use Rattle.flow_state.specs.StoredFlows.{there}
use Rattle.flow_state.proofs.by_sid.FlowsBySid.nth.Given as goal

abbrev pub invariant-loop-place : goal.invariant-loop-place
invariant-loop-place l = slice_get l.self.entries l.k ≡ slice_get (there (drop l.place l.self-inside.places.entries)) l.left
