use Rattle.node.specs.Releases.{Releases, outputs}
use Rattle.node.proofs.Somewhere.{goes_on}
use Rattle.node.proofs.sched.SchedNodeNode.release.Goals as goal

pub invariant_of-self : goal.invariant_of-self
invariant_of-self g c = record {
  somewhere = goes_on g.R.Records.may_find g.R.Records.is_honest c.args.self.now.parts c.release_up.new.self (λ s t. Releases s c.args.now (outputs c.release_up.result) t) c.args.self.now.somewhere c.release_up.ensures.trust.honest c.release_up.ensures.done;
}
