use Rattle.grant_machine.specs.Runs.{IsReached}
use Rattle.plan_account.specs.FlowsHeld.{HoldsFlows}
use Rattle.upsched_check.proofs.Drawn.{Did}
use Rattle.upsched_check.proofs.accounts.done_by.Given as goal

abbrev pub invariant-loop-command : goal.invariant-loop-command
invariant-loop-command l = IsReached l.machine × Did l.commands l.command-index l.machine l.deeds.items × HoldsFlows l.deeds.items l.flows
