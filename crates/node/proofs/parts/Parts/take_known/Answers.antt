use Rattle.std.proofs.Common.{◌≡◌, true, is_some, refl, ap, sym, ◌∙◌, Ok, Err, rules}
use Rattle.ballots.specs.Rows.{at}
use Rattle.proposer.specs.declared.fault.NodeFault.{NodeFault as Fault}
use Rattle.node.specs.Calls.{answer}
use Rattle.node.specs.Sched.{view_over}
use Rattle.node.specs.Step.{known, nothing}
use Rattle.node.proofs.Endings.{unchanged, turns}
use Rattle.node.proofs.Learning.{is_copied, known_there}
use Rattle.node.proofs.parts.Parts.take_known.Goals as goal

pub returns-then-is_some-clause-done : goal.returns-then-is_some-clause-done
returns-then-is_some-clause-done g c honest content holds =
    let old = c.args.self.now in
    let view = view_over old content in
    let some : is_some (at old.knowledge.tally.learned c.args.place) ≡ true = ap (λ q. is_some (at old.knowledge.tally.learned q)) (sym c.number.ensures.same) ∙ ap is_some (sym c.learned.ensures) ∙ is_copied c.learned.result ∙ sym c.is_some.ensures ∙ c.if-is_some.true in
    turns g.R.Records.may_find old c.requires.up content holds (λ course. course ≡ Ok (known view (at old.knowledge.tally.learned c.args.place) c.args.place c.args.value.now)) old (nothing view) c.new.result.items c.requires.up
    refl refl (ap Ok (known_there view (at old.knowledge.tally.learned c.args.place) c.args.place c.args.value.now some)) c.new.ensures.items

pub returns-in_err-copy-clause-done : goal.returns-in_err-copy-clause-done
returns-in_err-copy-clause-done g c honest content holds =
    let old = c.args.self.now in
    let is : c.from_residual.result ≡ Err Fault.OutOfMemory = search rules in
    unchanged g.R.Records.may_find old c.requires.up content holds (λ course. course ≡ Ok (known (view_over old content) (at old.knowledge.tally.learned c.args.place) c.args.place c.args.value.now)) (answer c.from_residual.result) (ap answer is)
