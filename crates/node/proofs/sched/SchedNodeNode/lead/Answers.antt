use Rattle.ballots.specs.Members.{member_count}
use Rattle.node.specs.Step.{Leads}
use Rattle.node.specs.Calls.{answer}
use Rattle.node.specs.Calls.Cause.{Lead}
use Rattle.node.proofs.Orders.{in_each_view}
use Rattle.node.proofs.Somewhere.{does_on}
use Rattle.node.proofs.Leading.{memory_in_each}
use Rattle.node.proofs.sched.SchedNodeNode.lead.Goals as goal

pub invariant_of-self : goal.invariant_of-self
invariant_of-self g c = record {
  somewhere = let old = c.args.self.now.parts in
      does_on g.R.Records.may_find g.R.Records.is_honest old c.lead_up.new.self c.if-self.false (λ view course. Leads (member_count old.proposer.members) old.proposer.id view course) c.lead_up.result c.args.self.now.somewhere c.lead_up.ensures.trust.honest c.lead_up.ensures.done;
}

pub returns-clause-order : goal.returns-clause-order
returns-clause-order g c honest view stands = in_each_view g.R.Records.may_find c.args.self.now.parts Lead (answer c.lead_up.result) (c.lead_up.ensures.order honest) view stands

pub returns-clause-memory : goal.returns-clause-memory
returns-clause-memory g c honest view stands = memory_in_each g.R.Records.may_find c.args.self.now.parts ((mid : g.row.R.Denot) × g.R.Records.finds_no_memory mid c.lead_up.new.self.records × g.R.Records.finds_no_ballot mid c.lead_up.new.self.records) c.lead_up.result (c.lead_up.ensures.memory honest) view stands
