use Rattle.std.proofs.Common.{◌+◌, ◌*◌, ◌≤◌, take, arith}
use Rattle.watched_runs.specs.Shown.{shown}
use Rattle.run_picture.specs.Rows.{sent_count}
use Rattle.run_picture.proofs.Placed.{givers_all, givers_more, taken}
use Rattle.run_picture.proofs.rows.senders_of.Goals as goal

pub loop-i-preserved : goal.loop-i-preserved
loop-i-preserved c =
    let before = c.loop-i-test.true in
    let asked = c.placed_count-end.ensures.asked in
    record {
      rows = givers_more sent_count (take c.args.span.1 c.args.run.now.rows) c.args.span.0 c.loop-i.i (shown c.row-row.result) c.loop-i.y
          c.row_at.result c.row_behind-y.result _ _ _
          (rw c.placed_count-end.ensures.value at before)
          (taken c.args.run.now.rows c.args.span.1 c.loop-i.i (shown c.row-row.result) (omega (arith, before, asked)) c.row-row.ensures)
          c.in_ok-add_times.ensures c.row_at.ensures c.row_behind-y.ensures.value c.loop-i.invariant.rows;
      fits = omega (arith, c.loop-i.invariant.fits, c.row_behind-y.ensures.small);
    }

pub returns : goal.returns
returns c =
    givers_all sent_count (take c.args.span.1 c.args.run.now.rows) c.args.span.0 c.loop-i.i c.loop-i.y _ _
    (rw c.placed_count-end.ensures.value at c.loop-i-test.false) c.loop-i.invariant.rows
