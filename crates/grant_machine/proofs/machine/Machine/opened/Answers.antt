use Rattle.grant_machine.proofs.Reaching.{reached_opening}
use Rattle.grant_machine.proofs.machine.Machine.opened.Goals as goal

pub invariant_of-result : goal.invariant_of-result
invariant_of-result c = reached_opening c.args.flows c.requires
