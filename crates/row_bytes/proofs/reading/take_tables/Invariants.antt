use Rattle.std.proofs.Common.{ℕ, List, ◌-◌}
use Rattle.flow_state.specs.Rows.{Rows}
use Rattle.row_bytes.specs.Reading.{HasRow, Read}
use Rattle.row_bytes.specs.Tables.{ReadsTables}
use Rattle.row_bytes.proofs.reading.take_tables.Given as goal

abbrev pub invariant-loop : goal.invariant-loop
invariant-loop l = record {
  read : (x : Read (Rows × List ℕ)) → ReadsTables (l.count - l.counter) l.flows l.rest.now x → ReadsTables l.count l.initial.flows l.initial.rest.now x;
  first : HasRow l.rest.now → HasRow l.initial.rest.now;
}
