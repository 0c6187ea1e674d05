use Rattle.std.proofs.Common.{◌≡◌, refl, ap, subst, sym, Ok, Err, IsTrue, rules}
use Rattle.ballots.specs.Members.{member_count}
use Rattle.acceptor.specs.Answers.{IsNewVote}
use Rattle.acceptor.specs.Content.{after_write}
use Rattle.acceptor.specs.Found.{Holds}
use Rattle.node.specs.Step.{accept}
use Rattle.node.specs.Calls.{answer}
use Rattle.node.specs.Sched.{view_over}
use Rattle.proposer.specs.declared.fault.NodeFault.{NodeFault as Fault}
use Rattle.node.proofs.Acceptances.{answered, accepts_so, votes_so, wrote_nothing}
use Rattle.node.proofs.Endings.{unchanged, ends, kept, fails}
use Rattle.node.proofs.Telling.{failed}
use Rattle.node.proofs.parts.Parts.take_accept.Goals as goal

pub returns-in_err-letters-clause-done : goal.returns-in_err-letters-clause-done
returns-in_err-letters-clause-done g c honest content holds =
    let view = view_over c.args.self.now content in
    let is : c.from_residual.result ≡ Err Fault.OutOfMemory = search rules in
    let told : answer c.from_residual.result ≡ Err Fault.OutOfMemory = ap answer is in
    unchanged g.R.Records.may_find c.args.self.now c.requires.up content holds (λ course. course ≡ Ok (accept (member_count c.args.self.now.proposer.members) c.args.self.now.proposer.id view c.args.ballot c.args.place c.args.value.now c.args.from)) (answer c.from_residual.result) told

pub returns-in-Err-clause-done : goal.returns-in-Err-clause-done
returns-in-Err-clause-done g c honest content holds =
    let old = c.args.self.now in
    let view = view_over old content in
    let members = member_count old.proposer.members in
    let before = subst (λ (a : g.row.R.Denot). IsTrue (g.R.Records.is_honest a)) c.fail.ensures.records honest in
    fails g.R.Records.may_find old c.requires.up content holds (λ course. course ≡ Ok (accept members old.proposer.id view c.args.ballot c.args.place c.args.value.now c.args.from)) c.accept.new.records (IsNewVote content c.args.ballot c.args.place) _ c.in-Err.fault c.fail.result c.fail.new.self c.fail.ensures.fails (c.in-Err.ensures.harmless before)
    (λ new. ap Ok (sym (votes_so members old.proposer.id c.args.from view c.args.ballot c.args.place c.args.value.now new))) (rw c.in_ok-letters.ensures.1 at c.in-Err.ensures.doubt before content holds)

pub returns-in_err-after_vote-clause-done : goal.returns-in_err-after_vote-clause-done
returns-in_err-after_vote-clause-done g c honest content holds =
    let view = view_over c.args.self.now content in
    let is : c.from_residual-in_err-after_vote.result ≡ Err Fault.OutOfMemory = search rules in
    let told : answer c.from_residual-in_err-after_vote.result ≡ Err Fault.OutOfMemory = ap answer is in
    let wrote = c.in-Ok.ensures.ok honest content holds in
    let none = wrote_nothing (member_count c.args.self.now.proposer.members) c.args.self.now.proposer.id c.args.from view c.args.ballot c.args.place c.args.value.now c.in-Ok.answer wrote.0 (rw c.in_ok-letters.ensures.1 at wrote.1) c.in_err-after_vote.ensures.err in
    kept g.R.Records.may_find c.args.self.now c.requires.up content holds (λ course. course ≡ Ok (accept (member_count c.args.self.now.proposer.members) c.args.self.now.proposer.id view c.args.ballot c.args.place c.args.value.now c.args.from)) c.accept.new.records (answer c.from_residual-in_err-after_vote.result) told (subst (λ w. Holds (g.R.Records.may_find c.accept.new.records) (after_write content w)) none wrote.2)

pub returns-clause-done : goal.returns-clause-done
returns-clause-done g c honest content holds =
    let view = view_over c.args.self.now content in
    let members = member_count c.args.self.now.proposer.members in
    let me = c.args.self.now.proposer.id in
    let wrote = c.in-Ok.ensures.ok honest content holds in
    let so : accept members me view c.args.ballot c.args.place c.args.value.now c.args.from ≡ answered members me c.args.from view c.args.ballot c.args.place c.args.value.now c.in-Ok.answer wrote.0 = accepts_so members me c.args.from view c.args.ballot c.args.place c.args.value.now c.in-Ok.answer wrote.0 (rw c.in_ok-letters.ensures.1 at wrote.1) in
    ends g.R.Records.may_find c.args.self.now c.requires.up content holds (λ course. course ≡ Ok (accept members me view c.args.ballot c.args.place c.args.value.now c.args.from)) c.accept.new.records
    (answered members me c.args.from view c.args.ballot c.args.place c.args.value.now c.in-Ok.answer wrote.0) c.in_ok-after_vote.field-0.items (after_write content wrote.0)
    (ap Ok (sym so)) c.in_ok-after_vote.ensures.ok refl wrote.2

pub returns-in-Err-clause-kept : goal.returns-in-Err-clause-kept
returns-in-Err-clause-kept g c = failed g.R.Records.count_of g.R.Records.is_broken c.args.self.now c.accept.new.records c.in-Err.fault c.fail.result c.fail.new.self c.requires.up c.fail.ensures.fails c.in-Err.ensures.account.count c.in-Err.ensures.account.broken
