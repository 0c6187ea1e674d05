use Rattle.std.proofs.Common.{◌≡◌}
use Rattle.ballots.specs.Members.{member_count}
use Rattle.node.specs.Step.{offer}
use Rattle.node.specs.Calls.{answer}
use Rattle.node.specs.Calls.Cause.{Offer}
use Rattle.node.proofs.Orders.{in_each_view}
use Rattle.node.proofs.Somewhere.{does_on}
use Rattle.node.proofs.sched.SchedNodeNode.offer.Goals as goal

pub invariant_of-self : goal.invariant_of-self
invariant_of-self g c = record {
  somewhere = let old = c.args.self.now.parts in
      does_on g.R.Records.may_find g.R.Records.is_honest old c.propose.new.self c.if-self.false (λ view course. course ≡ offer (member_count old.proposer.members) old.proposer.id view view.role c.args.value.now) c.propose.result c.args.self.now.somewhere c.propose.ensures.trust.honest c.propose.ensures.done;
}

pub returns-clause-order : goal.returns-clause-order
returns-clause-order g c honest view stands = in_each_view g.R.Records.may_find c.args.self.now.parts (Offer c.args.value.now) (answer c.propose.result) c.propose.ensures.order view stands
