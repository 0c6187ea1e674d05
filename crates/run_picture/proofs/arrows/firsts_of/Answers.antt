use Rattle.std.proofs.Common.{◌-◌, ◌+◌, ◌∙◌, length, get_or, arith}
use Rattle.watched_runs.specs.Shown.{shown}
use Rattle.run_picture.proofs.Firsts.{first_noted}
use Rattle.run_picture.proofs.arrows.firsts_of.Goals as goal

pub loop-passed-preserved : goal.loop-passed-preserved
loop-passed-preserved c = record {
  size = c.note_first.ensures.size ∙ c.loop-passed.invariant.size;
  first = λ k below.
      first_noted k (c.len-total.result - 1 - c.loop-passed.passed) (c.len-total.result - c.loop-passed.passed)
      (c.len-total.result - (c.loop-passed.passed + 1)) c.args.run.now.rows (shown c.row-row.result) c.delivered.result (get_or c.loop-passed.firsts.items k 0)
      (get_or c.note_first.new.firsts.items k 0) (omega (arith, c.loop-passed-test.true, c.len-total.ensures)) c.row-row.ensures c.delivered.ensures
      (omega (arith, c.loop-passed-test.true)) (omega (arith, c.loop-passed-test.true)) (c.loop-passed.invariant.first k below)
      (c.note_first.ensures.noted k (omega (arith, below, c.loop-passed.invariant.size)));
}
