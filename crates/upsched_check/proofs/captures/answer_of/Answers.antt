use Rattle.std.proofs.Common.{sym, subst}
use Rattle.upsched_check.specs.Plans.{FitsFrame}
use Rattle.grant_machine.specs.declared.output.Output.{Output}
use Rattle.plan_account.specs.Deeds.{IsDeedOf}
use Rattle.plan_account.specs.declared.deed.Deed.{Deed}
use Rattle.upsched_check.proofs.Fitting.{step_deed, step_fits}
use Rattle.upsched_check.proofs.captures.answer_of.Goals as goal

pub returns-in-Ok-clause-fits : goal.returns-in-Ok-clause-fits
returns-in-Ok-clause-fits c =
    subst FitsFrame (sym c.in-Ok.ensures.output) (step_fits c.maps_are_bodies_from.ensures c.args.machine.now c.args.command.now c.requires c.apply.ensures.fits)

pub returns-in-Ok-clause-deed : goal.returns-in-Ok-clause-deed
returns-in-Ok-clause-deed c =
    subst (λ (output : Output). (deed : Deed) × IsDeedOf c.args.command.now output deed) (sym c.in-Ok.ensures.output)
    (step_deed c.outputs_have_deeds.ensures c.args.machine.now c.args.command.now c.requires c.apply.ensures.fits)
