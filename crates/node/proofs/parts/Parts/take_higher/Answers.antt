use Rattle.std.proofs.Common.{◌≡◌, refl, ap, Ok}
use Rattle.proposer.specs.declared.proposer.Proposer.{Proposer}
use Rattle.node.specs.Sched.{view_over}
use Rattle.node.specs.Step.{nothing, after_higher}
use Rattle.node.proofs.Endings.{turns}
use Rattle.node.proofs.parts.Parts.take_higher.Goals as goal

pub returns-clause-done : goal.returns-clause-done
returns-clause-done g c honest content holds =
    turns g.R.Records.may_find c.args.self.now c.requires content holds (λ course. course ≡ Ok (nothing (after_higher (view_over c.args.self.now content) c.args.ballot)))
    record c.args.self.now { proposer = c.higher.new.self } (nothing (after_higher (view_over c.args.self.now content) c.args.ballot)) c.new.result.items c.requires
    (ap (λ (p : Proposer). record (view_over c.args.self.now content) { role = p.role; hint = p.hint }) c.higher.ensures) refl refl c.new.ensures.items
