use Rattle.std.proofs.Common.{◌≡◌, true, false, is_some, refl, ap, sym, ◌∙◌, Ok, Err, None, rules}
use Rattle.ballots.specs.Members.{member_count}
use Rattle.ballots.specs.Rows.{at}
use Rattle.learner.specs.Tally.{teaches, counts}
use Rattle.proposer.specs.declared.fault.NodeFault.{NodeFault as Fault}
use Rattle.node.specs.Calls.{answer}
use Rattle.node.specs.Learned.{Learned}
use Rattle.node.specs.Sched.{view_over}
use Rattle.node.specs.Step.{nothing, voted}
use Rattle.node.proofs.Endings.{unchanged, same_view, turns}
use Rattle.node.proofs.Learning.{is_copied, voted_counts, voted_there}
use Rattle.node.proofs.parts.Parts.take_voted.Goals as goal

pub returns-then-is_some-clause-done : goal.returns-then-is_some-clause-done
returns-then-is_some-clause-done g c honest content holds =
    let old = c.args.self.now in
    let view = view_over old content in
    let members = member_count old.proposer.members in
    let some : is_some (at old.knowledge.tally.learned c.args.place) ≡ true = ap (λ q. is_some (at old.knowledge.tally.learned q)) (sym c.number.ensures.same) ∙ ap is_some (sym c.learned.ensures) ∙ is_copied c.learned.result ∙ sym c.is_some.ensures ∙ c.if-is_some.true in
    turns g.R.Records.may_find old c.requires.up content holds (λ course. course ≡ Ok (voted members view (at old.knowledge.tally.learned c.args.place) c.args.ballot c.args.place c.args.value.now c.args.from)) old (nothing view) c.new.result.items c.requires.up
    refl refl (ap Ok (voted_there members view (at old.knowledge.tally.learned c.args.place) c.args.ballot c.args.place c.args.value.now c.args.from some)) c.new.ensures.items

pub returns-in_err-value-clause-done : goal.returns-in_err-value-clause-done
returns-in_err-value-clause-done g c honest content holds =
    let old = c.args.self.now in
    let is : c.from_residual.result ≡ Err Fault.OutOfMemory = search rules in
    unchanged g.R.Records.may_find old c.requires.up content holds (λ course. course ≡ Ok (voted (member_count old.proposer.members) (view_over old content) (at old.knowledge.tally.learned c.args.place) c.args.ballot c.args.place c.args.value.now c.args.from)) (answer c.from_residual.result) (ap answer is)

pub returns-in_err-taught-clause-done : goal.returns-in_err-taught-clause-done
returns-in_err-taught-clause-done g c honest content holds =
    let old = c.args.self.now in
    let is : c.from_residual-in_err-taught.result ≡ Err Fault.OutOfMemory = search rules in
    same_view g.R.Records.may_find old c.requires.up content holds (λ course. course ≡ Ok (voted (member_count old.proposer.members) (view_over old content) (at old.knowledge.tally.learned c.args.place) c.args.ballot c.args.place c.args.value.now c.args.from)) record old { knowledge = c.voted.new.self } c.requires.up
    (ap (λ (l : Learned). record (view_over old content) { tally = l.tally; cursor = l.cursor }) (sym c.in_err-taught.ensures.err)) refl (answer c.from_residual-in_err-taught.result) (ap answer is)

pub returns-in-None-clause-done : goal.returns-in-None-clause-done
returns-in-None-clause-done g c honest content holds =
    let old = c.args.self.now in
    let members = member_count old.proposer.members in
    let tally = old.knowledge.tally in
    let none : c.in_ok-taught.taught ≡ None = c.in-None.is in
    let not_so : false ≡ teaches members tally (at tally.learned c.args.place) c.args.ballot c.args.place c.args.value.now c.args.from = ap is_some (sym none) ∙ rw (c.in_ok-value.ensures, c.members-members.ensures) at c.in_ok-taught.ensures.taught in
    let is : c.voted.new.self ≡ record old.knowledge { tally = counts tally (at tally.learned c.args.place) c.args.ballot c.args.place c.args.value.now c.args.from } = rw c.in_ok-value.ensures at c.in_ok-taught.ensures.counted none in
    turns g.R.Records.may_find old c.requires.up content holds (λ course. course ≡ Ok (voted members (view_over old content) (at tally.learned c.args.place) c.args.ballot c.args.place c.args.value.now c.args.from)) record old { knowledge = c.voted.new.self }
    (nothing record (view_over old content) { tally = counts tally (at tally.learned c.args.place) c.args.ballot c.args.place c.args.value.now c.args.from }) c.new-in-None.result.items c.requires.up
    (ap (λ (l : Learned). record (view_over old content) { tally = l.tally; cursor = l.cursor }) is) refl (ap Ok (voted_counts members (view_over old content) (at tally.learned c.args.place) c.args.ballot c.args.place c.args.value.now c.args.from not_so)) c.new-in-None.ensures.items
