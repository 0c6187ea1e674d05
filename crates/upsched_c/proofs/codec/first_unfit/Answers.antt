use Rattle.std.proofs.Common.{get_or}
use Rattle.upsched_c.specs.declared.structs.MapElement.{MapElement}
use Rattle.upsched_c.proofs.Fields.{element_at, fit_more}
use Rattle.upsched_c.proofs.codec.first_unfit.Goals as goal

pub returns-then-not-fits-clause-some : goal.returns-then-not-fits-clause-some
returns-then-not-fits-clause-some c =
    let es = c.args.elements.now in
    let d : MapElement = record { sid = 0; offset = 0; iuc = 0 } in
    record {
      here = (get_or es c.loop-i.i d, element_at es c.loop-i.i d c.loop-i-test.true, λ fits. let told = c.fits.ensures.1 fits in cc);
      before = c.loop-i.invariant;
    }

pub loop-i-preserved : goal.loop-i-preserved
loop-i-preserved c =
    let es = c.args.elements.now in
    let d : MapElement = record { sid = 0; offset = 0; iuc = 0 } in
    fit_more es c.loop-i.i (get_or es c.loop-i.i d) c.loop-i.invariant (element_at es c.loop-i.i d c.loop-i-test.true) (c.fits.ensures.0 c.if-not-fits.false)
