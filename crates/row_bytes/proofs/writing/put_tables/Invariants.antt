use Rattle.std.proofs.Common.{◌≡◌, ◌++◌, take}
use Rattle.std.specs.List.{flat_map, AllByRecursion}
use Rattle.row_bytes.specs.Fits.{FitsTable}
use Rattle.row_bytes.specs.Spelling.{table_spelling}
use Rattle.row_bytes.proofs.writing.put_tables.Given as goal

abbrev pub invariant-loop-k : goal.invariant-loop-k
invariant-loop-k l =
    (l.out.items ≡ l.initial.out.items ++ flat_map table_spelling (take l.k l.rows)) × AllByRecursion FitsTable (take l.k l.rows)
