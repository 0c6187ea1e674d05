use Rattle.node.specs.Calls.{Restarts}
use Rattle.node.proofs.Somewhere.{goes_on}
use Rattle.node.proofs.sched.SchedNodeNode.restart.Goals as goal

pub invariant_of-self : goal.invariant_of-self
invariant_of-self g c = record {
  somewhere = goes_on g.R.Records.may_find g.R.Records.is_honest c.args.self.now.parts c.start_over.new.self (λ s t. Restarts s c.start_over.result t) c.args.self.now.somewhere c.start_over.ensures.honesty c.start_over.ensures.done;
}
