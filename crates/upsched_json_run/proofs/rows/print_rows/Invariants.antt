use Rattle.std.proofs.Common.{take}
use Rattle.upsched_json_run.specs.Runs.{PrintsRows}
use Rattle.upsched_json_run.proofs.rows.print_rows.Given as goal

abbrev pub invariant-loop-i : goal.invariant-loop-i
invariant-loop-i g l = PrintsRows l.is_traced (take l.i l.run.rows) (g.O.Write.contents l.initial.output) (g.O.Write.contents l.output)
