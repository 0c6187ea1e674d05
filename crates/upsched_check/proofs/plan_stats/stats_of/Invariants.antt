use Rattle.grant_machine.specs.Runs.{IsReached}
use Rattle.upsched_check.proofs.Told.{Counted}
use Rattle.upsched_check.proofs.plan_stats.stats_of.Given as goal

abbrev pub invariant-loop-command : goal.invariant-loop-command
invariant-loop-command l = IsReached l.machine × Counted l.commands l.command-index l.machine l.stats l.flows
