use Rattle.std.proofs.Common.{◌≡◌, refl, ap, sym, ◌∙◌, Ok, Err, rules}
use Rattle.ballots.specs.Members.{member_count}
use Rattle.proposer.specs.Bounds.{in_log}
use Rattle.proposer.specs.Turns as turn
use Rattle.proposer.specs.declared.proposer.Proposer.{Proposer}
use Rattle.proposer.specs.declared.fault.NodeFault.{NodeFault as Fault}
use Rattle.node.specs.Calls.{answer}
use Rattle.node.specs.Sched.{view_over}
use Rattle.node.specs.Step.{promise}
use Rattle.node.proofs.Endings.{same_view, turns}
use Rattle.node.proofs.Turning.{turned, promise_so, all_in_log}
use Rattle.node.proofs.parts.Parts.take_promise.Goals as goal

pub returns-in_err-promise-clause-done : goal.returns-in_err-promise-clause-done
returns-in_err-promise-clause-done g c honest content holds =
    let old = c.args.self.now in
    let is : c.from_residual.result ≡ Err Fault.OutOfMemory = search rules in
    same_view g.R.Records.may_find old c.requires.up content holds (λ course. course ≡ Ok (promise (member_count old.proposer.members) old.proposer.id (view_over old content) old.proposer.role c.args.ballot c.args.place c.args.votes.now c.args.from))
    record old { proposer = c.promise.new.self } c.requires.up (ap (λ (p : Proposer). record (view_over old content) { role = p.role; hint = p.hint }) (sym c.in_err-promise.ensures.unchanged)) refl (answer c.from_residual.result) (ap answer is)

pub returns-clause-done : goal.returns-clause-done
returns-clause-done g c honest content holds =
    let old = c.args.self.now in
    let members = member_count old.proposer.members in
    let me = old.proposer.id in
    let view = view_over old content in
    let given : turn.promise members me old.proposer.role c.args.ballot c.args.place c.args.votes.now c.args.from ≡ record { role = c.promise.new.self.role; letters = c.in_ok-promise.field-0.items } =
    ap (λ vs. turn.promise members me old.proposer.role c.args.ballot c.args.place vs c.args.from) (sym (all_in_log c.args.ballot c.args.place c.args.votes.now c.requires.sound))
    ∙ ap (λ vs. turn.promise members me old.proposer.role c.args.ballot c.args.place (in_log vs) c.args.from) (sym c.rows.ensures) ∙ c.in_ok-promise.ensures.ok in
    let hint : old.proposer.hint ≡ c.promise.new.self.hint = sym (ap (λ (p : Proposer). p.hint) c.in_ok-promise.ensures.rest) in
    let o = turned view record { role = c.promise.new.self.role; letters = c.in_ok-promise.field-0.items } in
    turns g.R.Records.may_find old c.requires.up content holds (λ course. course ≡ Ok (promise members me view old.proposer.role c.args.ballot c.args.place c.args.votes.now c.args.from))
    record old { proposer = c.promise.new.self } o c.in_ok-promise.field-0.items c.requires.up (λ i. record o.view { hint = sym hint i }) refl
    (ap Ok (sym (promise_so members me view old.proposer.role refl c.args.ballot c.args.place c.args.votes.now c.args.from ∙ ap (turned view) given))) refl
