use Rattle.std.proofs.Common.{ℕ, List}
use Rattle.std.specs.Io.KnownBytes.{Consumes}
use Rattle.node_lines.specs.Input.{IsLine}
use Rattle.node_lines.proofs.input.skip_rest.Given as goal

abbrev pub invariant-loop : goal.invariant-loop
invariant-loop g l = (rest : List ℕ) × IsLine rest × Consumes (g.R.Read.remaining l.initial.input) (g.R.Read.remaining l.input) rest
