use Rattle.node.specs.Calls.{TellsFresh}
use Rattle.node.proofs.Somewhere.{goes_on}
use Rattle.node.proofs.Freshness.{fresh_if_ok}
use Rattle.node.proofs.sched.SchedNodeNode.is_fresh.Goals as goal

pub invariant_of-self : goal.invariant_of-self
invariant_of-self g c = record {
  somewhere = goes_on g.R.Records.may_find g.R.Records.is_honest c.args.self.now.parts c.tells_fresh.new.self (λ s t. TellsFresh s c.tells_fresh.result t) c.args.self.now.somewhere c.tells_fresh.ensures.trust.honest c.tells_fresh.ensures.done;
}

pub returns-clause-fresh : goal.returns-clause-fresh
returns-clause-fresh g c honest =
    let old = c.args.self.now in
    fresh_if_ok g.R.Records.may_find old.parts c.tells_fresh.new.self c.if-self.false c.tells_fresh.result (old.somewhere (c.tells_fresh.ensures.trust.honest honest)) (c.tells_fresh.ensures.done honest) c.tells_fresh.ensures.kept.4 c.tells_fresh.ensures.untouched
