use Rattle.std.proofs.Common.{◌≡◌, Ok, sym, ◌∙◌}
use Rattle.ballots.specs.Members.{member_count}
use Rattle.node.specs.Step.{heed, is_heeded}
use Rattle.node.proofs.Somewhere.{does_on}
use Rattle.node.proofs.Endings.{received, unheeded}
use Rattle.node.proofs.sched.SchedNodeNode.receive.Goals as goal

pub returns-then-not-is_heeded-clause-done : goal.returns-then-not-is_heeded-clause-done
returns-then-not-is_heeded-clause-done g c honest =
    let parts = c.args.self.now.parts in
    let heeds : c.is_heeded.result ≡ is_heeded (member_count parts.proposer.members) parts.proposer.id c.args.letter.now = rw (c.members.ensures, c.id.ensures) at c.is_heeded.ensures in
    unheeded g.R.Records.may_find g.R.Records.count_of parts c.args.letter.now c.if-self.false (sym heeds ∙ c.if-not-is_heeded.true) c.new.result.items c.new.ensures.items

pub returns-clause-done : goal.returns-clause-done
returns-clause-done g c honest =
    let parts = c.args.self.now.parts in
    let heeds : c.is_heeded.result ≡ is_heeded (member_count parts.proposer.members) parts.proposer.id c.args.letter.now = rw (c.members.ensures, c.id.ensures) at c.is_heeded.ensures in
    received g.R.Records.may_find g.R.Records.count_of parts c.heed.new.self c.args.letter.now c.if-self.false (sym heeds ∙ c.if-not-is_heeded.false) c.heed.result (c.heed.ensures.done honest)

pub invariant_of-self : goal.invariant_of-self
invariant_of-self g c = record {
  somewhere = let old = c.args.self.now.parts in
      does_on g.R.Records.may_find g.R.Records.is_honest old c.heed.new.self c.if-self.false (λ view course. course ≡ Ok (heed (member_count old.proposer.members) old.proposer.id view c.args.letter.now.from c.args.letter.now.note)) c.heed.result c.args.self.now.somewhere c.heed.ensures.trust.honest c.heed.ensures.done;
}
