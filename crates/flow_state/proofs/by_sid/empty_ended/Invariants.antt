use Rattle.std.proofs.Common.{◌≡◌}
use Rattle.flow_state.proofs.BySid.{cleared}
use Rattle.flow_state.proofs.by_sid.empty_ended.Given as goal

abbrev pub invariant-loop-place : goal.invariant-loop-place
invariant-loop-place l = l.places.entries ≡ cleared l.end l.place l.initial.places.entries
