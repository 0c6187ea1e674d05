use Rattle.std.proofs.Common.{◌≡◌, ◌++◌}
use Rattle.map_text.specs.Bars.{column_owner, columns}
use Rattle.map_text.proofs.bars.put_owners.Given as goal

abbrev pub invariant-loop-column : goal.invariant-loop-column
invariant-loop-column l = l.out.items ≡ l.initial.out.items ++ columns (column_owner l.intervals l.len) l.column
