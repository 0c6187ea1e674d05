use Rattle.upsched_check.proofs.Told.{one_counted}
use Rattle.upsched_check.proofs.plan_stats.stats_of.Goals as goal

pub loop-command-preserved : goal.loop-command-preserved
loop-command-preserved c = (
  c.deed_done.ensures.reached,
  one_counted c.args.commands.now c.loop-command.command-index _ c.loop-command.machine c.deed_done.new.machine c.loop-command.stats c.add_to.new.stats c.loop-command.flows c.add_to.new.flows c.in_ok-deed.deed
      c.loop-command-test.true c.loop-command.invariant.1 c.in_ok-deed.ensures.rows c.in_ok-deed.ensures.deed c.in_ok-add_to.ensures.stats c.in_ok-add_to.ensures.flows,
)
