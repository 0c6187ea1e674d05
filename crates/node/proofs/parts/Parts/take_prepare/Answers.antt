use Rattle.std.proofs.Common.{◌≡◌, ◌<◌, refl, ap, subst, sym, Ok, Err, IsTrue, ◌++◌, ◌∷◌, [], rules}
use Rattle.acceptor.specs.Content.{after_write, promised}
use Rattle.node.specs.Step.{prepare, letter}
use Rattle.node.specs.Calls.{answer}
use Rattle.node.specs.Sched.{view_over}
use Rattle.node.specs.Answers.{prepared_note}
use Rattle.proposer.specs.declared.fault.NodeFault.{NodeFault as Fault}
use Rattle.node.proofs.Preparations.{first_letters, prepared, prepares_so, promises_so}
use Rattle.node.proofs.Endings.{unchanged, ends, fails}
use Rattle.node.proofs.Telling.{failed}
use Rattle.node.proofs.parts.Parts.take_prepare.Goals as goal

pub returns-in_err-letters-clause-done : goal.returns-in_err-letters-clause-done
returns-in_err-letters-clause-done g c honest content holds =
    let is : c.from_residual.result ≡ Err Fault.OutOfMemory = search rules in
    unchanged g.R.Records.may_find c.args.self.now c.requires content holds (λ course. course ≡ Ok (prepare c.args.self.now.proposer.id (view_over c.args.self.now content) c.args.ballot c.args.place c.args.from)) (answer c.from_residual.result) (ap answer is)

pub returns-in-Err-clause-done : goal.returns-in-Err-clause-done
returns-in-Err-clause-done g c honest content holds =
    let old = c.args.self.now in
    let view = view_over old content in
    let before = subst (λ (a : g.row.R.Denot). IsTrue (g.R.Records.is_honest a)) c.fail.ensures.records honest in
    fails g.R.Records.may_find old c.requires content holds (λ course. course ≡ Ok (prepare old.proposer.id view c.args.ballot c.args.place c.args.from)) c.prepare.new.records (promised content < c.args.ballot) _ c.in-Err.fault c.fail.result c.fail.new.self c.fail.ensures.fails (c.in-Err.ensures.harmless before)
    (λ above. ap Ok (sym (promises_so old.proposer.id c.args.from view c.args.ballot c.args.place above))) (c.in-Err.ensures.doubt before content holds)

pub returns-clause-done : goal.returns-clause-done
returns-clause-done g c honest content holds =
    let me = c.args.self.now.proposer.id in
    let view = view_over c.args.self.now content in
    let wrote = c.in-Ok.ensures.ok honest content holds in
    let so = prepares_so me c.args.from view c.args.ballot c.args.place c.in-Ok.answer wrote.0 wrote.1 in
    let sent : c.push_reserved.new.self.items ≡ first_letters me c.args.from view c.args.ballot c.args.place ++ letter me c.args.from (prepared_note c.args.ballot c.args.place c.in-Ok.answer) ∷ [] = rw (c.push_reserved.ensures.items, c.in_ok-letters.ensures.letters, c.prepared_note.ensures, c.id.ensures) refl in
    ends g.R.Records.may_find c.args.self.now c.requires content holds (λ course. course ≡ Ok (prepare me view c.args.ballot c.args.place c.args.from)) c.prepare.new.records
    (prepared me c.args.from view c.args.ballot c.args.place c.in-Ok.answer wrote.0) c.push_reserved.new.self.items (after_write content wrote.0)
    (ap Ok (sym so)) sent refl wrote.2

pub returns-in-Err-clause-kept : goal.returns-in-Err-clause-kept
returns-in-Err-clause-kept g c = failed g.R.Records.count_of g.R.Records.is_broken c.args.self.now c.prepare.new.records c.in-Err.fault c.fail.result c.fail.new.self c.requires c.fail.ensures.fails c.in-Err.ensures.account.count c.in-Err.ensures.account.broken
