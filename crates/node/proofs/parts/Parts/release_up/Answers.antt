use Rattle.std.proofs.Common.{◌≡◌, refl, subst, sym, Err, rules}
use Rattle.proposer.specs.declared.fault.NodeFault.{NodeFault as Fault}
use Rattle.node.specs.Releases.{Releases, outputs}
use Rattle.node.specs.Sched.{Stands}
use Rattle.node.specs.View.{Standing}
use Rattle.node.proofs.Releasing.{releases, wants}
use Rattle.node.proofs.parts.Parts.release_up.Goals as goal

pub returns-in_err-release-clause-done : goal.returns-in_err-release-clause-done
returns-in_err-release-clause-done g c honest s stands =
    let is : c.from_residual.result ≡ Err Fault.OutOfMemory = search rules in
    subst (λ r. (t : Standing) × Releases s c.args.now (outputs r) t × Stands g.R.Records.may_find record c.args.self.now { knowledge = c.release.new.self } t) (sym is)
    (wants g.R.Records.may_find c.args.self.now c.requires c.release.new.self c.args.now Fault.OutOfMemory refl c.in_err-release.ensures.err s stands)

pub returns-clause-done : goal.returns-clause-done
returns-clause-done g c honest s stands =
    releases g.R.Records.may_find c.args.self.now c.requires c.release.new.self c.args.now c.in_ok-release.field-0.items c.in_ok-release.ensures.released c.in_ok-release.ensures.ok s stands
