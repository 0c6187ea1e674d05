use Rattle.ballots.specs.Members.{member_count}
use Rattle.node.specs.Sched.{view_over}
use Rattle.node.proofs.Offers.{offer_ends}
use Rattle.node.proofs.Orders.{offer_last}
use Rattle.node.proofs.Offers.{takes_turn}
use Rattle.proposer.specs.Turns as turn
use Rattle.node.proofs.parts.Parts.propose.Goals as goal

pub returns-clause-done : goal.returns-clause-done
returns-clause-done g c honest content holds =
    offer_ends g.R.Records.may_find c.args.self.now c.requires content holds c.args.value.now c.offer.new.self c.offer.ensures.rest c.offer.result c.offer.ensures.ok c.offer.ensures.declined c.offer.ensures.unchanged

pub returns-clause-order : goal.returns-clause-order
returns-clause-order g c content =
    let old = c.args.self.now in
    offer_last (member_count old.proposer.members) old.proposer.id (view_over old content) c.args.value.now c.offer.result c.offer.ensures.declined

pub returns-clause-turn : goal.returns-clause-turn
returns-clause-turn g c =
    let old = c.args.self.now.proposer in
    takes_turn (turn.offer (member_count old.members) old.id old.role c.args.value.now) c.offer.new.self.role c.offer.result c.offer.ensures.ok c.offer.ensures.declined
