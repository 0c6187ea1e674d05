use Rattle.std.proofs.Common.{◌≡◌, ℕ, ◌<◌, ◌≤◌, slice_get, Some}
use Rattle.flow_state.specs.Rows.{Lease}
use Rattle.flow_state.proofs.blocks.over_in.Given as goal

abbrev pub invariant-loop-place : goal.invariant-loop-place
invariant-loop-place l = (p : ℕ) (m : Lease) → l.from ≤ p → p < l.place → slice_get l.latest p ≡ Some m → l.start ≤ m.last
