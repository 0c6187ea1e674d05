use Rattle.upsched_check.proofs.Drawn.{one_done}
use Rattle.upsched_check.proofs.accounts.done_by.Goals as goal

pub loop-command-preserved : goal.loop-command-preserved
loop-command-preserved c = (
  c.deed_done.ensures.reached,
  rw c.in-Ok.ensures.items
      (one_done c.args.commands.now c.loop-command.command-index _ c.loop-command.machine c.deed_done.new.machine c.loop-command.deeds.items c.in_ok-deed.deed
      c.loop-command-test.true c.loop-command.invariant.1 c.in_ok-deed.ensures.rows c.in_ok-deed.ensures.deed),
  rw c.in-Ok.ensures.items (c.in_ok-add_deed.ensures.flows c.loop-command.deeds.items c.loop-command.invariant.2),
)
