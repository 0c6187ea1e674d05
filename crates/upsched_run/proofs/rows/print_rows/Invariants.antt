use Rattle.std.proofs.Common.{◌≤◌}
use Rattle.std.specs.Io.KnownBytes.{Appends}
use Rattle.std.specs.List.{flat_map}
use Rattle.watched_runs.specs.Marks.{between}
use Rattle.upsched_run.specs.RunLines.{row_lines}
use Rattle.upsched_run.proofs.rows.print_rows.Given as goal

abbrev pub invariant-loop-i : goal.invariant-loop-i
invariant-loop-i g l = record {
  above : l.from ≤ l.i;
  within : l.i ≤ l.to;
  lines : Appends (g.O.Write.contents l.initial.output) (g.O.Write.contents l.output) (flat_map (row_lines l.trace l.stage.all) (between (l.from, l.i) l.run.rows));
}
