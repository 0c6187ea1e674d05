use Rattle.std.proofs.Common.{◌≡◌, length}
use Rattle.std.specs.Io.KnownBytes.{Consumes}
use Rattle.node_lines.specs.Input.{IsLine}
use Rattle.node_lines.proofs.input.next_line_within.Given as goal

abbrev pub invariant-loop : goal.invariant-loop
invariant-loop g l = record {
  line : IsLine l.line.items;
  read : Consumes (g.R.Read.remaining l.initial.input) (g.R.Read.remaining l.input) l.line.items;
  len : length l.line.items ≡ l.counter;
}
