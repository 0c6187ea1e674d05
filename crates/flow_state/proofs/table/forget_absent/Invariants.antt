use Rattle.std.proofs.Common.{ℕ, nat_eq}
use Rattle.std.specs.Prelude.{IsSome}
use Rattle.std.specs.Map.{lookup}
use Rattle.flow_state.specs.StoredDues.{IsDueFrom}
use Rattle.flow_state.proofs.table.forget_absent.Given as goal

abbrev pub invariant-loop-sid : goal.invariant-loop-sid
invariant-loop-sid l = (sid due : ℕ) → IsSome (lookup (nat_eq sid) l.flows.entries) → IsDueFrom l.initial.dues sid due → IsDueFrom l.dues sid due
