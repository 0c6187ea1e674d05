use Rattle.grant_machine.proofs.Reaching.{reached_opening}
use Rattle.std.proofs.Common.{[], sym, subst}
use Rattle.grant_machine.specs.Runs.{IsReached}
use Rattle.grant_machine.proofs.machine.Machine.new.Goals as goal

pub invariant_of-result : goal.invariant_of-result
invariant_of-result c = subst IsReached (sym c.new.ensures) (reached_opening [] (tt, tt))
