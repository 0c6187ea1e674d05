use Rattle.std.proofs.Common.{◌≡◌, take}
use Rattle.flow_state.specs.StoredFlows.{there}
use Rattle.flow_state.proofs.Filling.{values}
use Rattle.flow_state.proofs.by_sid.FlowsBySid.copy_all.Given as goal

abbrev pub invariant-loop-place : goal.invariant-loop-place
invariant-loop-place l = l.copied.items ≡ values (there (take l.place l.self-inside.places.entries))
