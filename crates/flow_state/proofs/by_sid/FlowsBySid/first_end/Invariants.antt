use Rattle.std.proofs.Common.{take}
use Rattle.flow_state.specs.StoredTable.{EndFrom}
use Rattle.flow_state.specs.StoredFlows.{there}
use Rattle.flow_state.proofs.by_sid.FlowsBySid.first_end.Given as goal

abbrev pub invariant-loop-place : goal.invariant-loop-place
invariant-loop-place l = EndFrom l.first (there (take l.place l.self-inside.places.entries))
