use Rattle.std.proofs.Common.{◌≡◌, ◌++◌, take, filter_map}
use Rattle.toml.specs.View.{view}
use Rattle.text_faults.specs.Rows.{rows_of}
use Rattle.text_faults.specs.Faults.{fault_at}
use Rattle.text_faults.proofs.search.note_keys.Given as goal

abbrev pub invariant-loop-row : goal.invariant-loop-row
invariant-loop-row l =
    l.faults.items ≡ l.fn.faults.items ++ filter_map (fault_at l.place l.told (view l.table)) (take l.row-index (rows_of l.fn.kind))
