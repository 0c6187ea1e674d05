use Rattle.std.proofs.Common.{◌≡◌, ◌+◌, ◌*◌, ◌≤◌, ◌++◌, drop, take}
use Rattle.run_picture.specs.Rows.{rows_from, rows_within}
use Rattle.run_picture.proofs.rows.rows_of.Given as goal

-- the rows so far and those of the events that are left are those of all that are drawn
abbrev pub invariant-loop-i : goal.invariant-loop-i
invariant-loop-i l = record {
  rows : l.rows.items ++ rows_from l.span.0 l.i l.y (drop l.i (take l.span.1 l.run.rows)) ≡ rows_within l.span l.run.rows;
  fits : l.y ≤ 146 + 24 * l.i;
}
