use Rattle.flow_state.specs.StoredDues.{NoneBefore}
use Rattle.flow_state.proofs.dues.first_in.Given as goal

abbrev pub invariant-loop-place : goal.invariant-loop-place
invariant-loop-place l = NoneBefore l.times l.from l.place l.end
