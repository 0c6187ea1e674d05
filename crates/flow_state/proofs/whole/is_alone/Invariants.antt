use Rattle.std.proofs.Common.{◌≡◌, take}
use Rattle.std.specs.List.{count_by}
use Rattle.flow_state.specs.Rows.{is_of}
use Rattle.flow_state.proofs.whole.is_alone.Given as goal

abbrev pub invariant-loop-other : goal.invariant-loop-other
invariant-loop-other l = l.found ≡ count_by (is_of l.request.sid) (take l.other-index l.requests)
