use Rattle.std.proofs.Common.{arith}
use Rattle.watched_runs.specs.Shown.{shown}
use Rattle.upsched_run.specs.RunLines.{row_lines}
use Rattle.upsched_run.proofs.Told.{all_rows, no_row, one_row}
use Rattle.upsched_run.proofs.rows.print_rows.Goals as goal

pub loop-i-init : goal.loop-i-init
loop-i-init g c =
    record { above = omega arith; within = c.rows_of-from.ensures.order; lines = no_row (row_lines c.args.trace c.args.stage.now.all) c.args.run.now.rows c.rows_of-from.result.0 _ }

pub loop-i-preserved : goal.loop-i-preserved
loop-i-preserved g c =
    let before = c.loop-i.invariant in record {
      above = omega (arith, before.above);
      within = omega (arith, c.loop-i-test.true);
      lines = one_row (row_lines c.args.trace c.args.stage.now.all) c.args.run.now.rows _ c.loop-i.i (shown c.row.result) _ _ _ before.above
          (omega (arith, c.loop-i-test.true, c.rows_of-from.ensures.within)) c.row.ensures before.lines c.in_ok-print_row.ensures.printed;
    }

pub returns-clause-printed : goal.returns-clause-printed
returns-clause-printed g c =
    all_rows (row_lines c.args.trace c.args.stage.now.all) c.args.run.now.rows _ _ c.loop-i.i _ _ _ c.loop-i.invariant.within c.loop-i-test.false c.rows_of-from.ensures.same c.loop-i.invariant.lines
