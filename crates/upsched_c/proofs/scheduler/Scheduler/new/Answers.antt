use Rattle.std.proofs.Common.{sym, subst}
use Rattle.grant_machine.specs.Runs.{IsReached}
use Rattle.upsched_c.proofs.Bodies.{reached_none}
use Rattle.upsched_c.proofs.scheduler.Scheduler.new.Goals as goal

pub invariant_of-result : goal.invariant_of-result
invariant_of-result c = subst IsReached (sym c.new.ensures) reached_none
