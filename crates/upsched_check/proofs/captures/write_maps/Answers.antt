use Rattle.upsched_check.proofs.Captured.{one_more, all_records}
use Rattle.upsched_check.proofs.captures.write_maps.Goals as goal

pub loop-command-preserved : goal.loop-command-preserved
loop-command-preserved g c = (
  c.answer_of.ensures.reached,
  one_more c.args.commands.now c.loop-command.command-index _ c.loop-command.machine c.answer_of.new.machine c.loop-command.count c.in_ok-count.field-0 _ _ _
      c.loop-command-test.true c.loop-command.invariant.1 c.in_ok-answer.ensures.rows
      (rw c.in_ok-answer.ensures.output at c.in_ok-count.ensures.count) c.in_ok-count.ensures.few (rw c.in_ok-answer.ensures.output at c.in_ok-count.ensures.written),
)

pub returns-in-Ok : goal.returns-in-Ok
returns-in-Ok g c =
    all_records c.args.commands.now c.loop-command.command-index c.loop-command.machine c.loop-command.count _ _ _ _
    c.loop-command-test.false (rw c.file_head.ensures at c.in_ok-write_bytes.ensures.written) c.loop-command.invariant.1 c.in-Ok.ensures.bytes
