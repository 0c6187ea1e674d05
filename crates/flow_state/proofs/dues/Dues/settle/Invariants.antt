use Rattle.std.proofs.Common.{ℕ}
use Rattle.flow_state.specs.StoredDues.{IsDueFrom}
use Rattle.flow_state.proofs.dues.Dues.settle.Given as goal

abbrev pub invariant-loop-block : goal.invariant-loop-block
invariant-loop-block l = (sid due : ℕ) → IsDueFrom l.initial.self sid due → IsDueFrom l.self sid due
