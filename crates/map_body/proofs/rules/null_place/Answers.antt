use Rattle.std.proofs.Common.{refl}
use Rattle.std.proofs.lemmas.Option.{slice_get_read}
use Rattle.map_body.proofs.Scan.{below_next, iuc_at, untested}
use Rattle.map_body.specs.Rules.{IsNull}
use Rattle.map_body.proofs.Cells.{none_past}
use Rattle.map_body.proofs.rules.null_place.Goals as goal

pub loop-i-preserved : goal.loop-i-preserved
loop-i-preserved c =
    let es = c.args.elements.now in
    let e = c.index-elements-i.result in
    let at = slice_get_read es _ c.loop-i.i e refl c.loop-i-test.true c.index-elements-i.is in
    below_next (λ k. ¬ IsNull es k) c.loop-i.i c.loop-i.invariant (λ h. untested c.eq.result e.iuc 7 c.eq.ensures c.if-eq.false (iuc_at es c.loop-i.i 7 e at h))

pub returns : goal.returns
returns c = absurd (none_past c.args.elements.now c.loop-i.i c.loop-i-test.false c.loop-i.invariant c.requires.0 c.requires.1)
