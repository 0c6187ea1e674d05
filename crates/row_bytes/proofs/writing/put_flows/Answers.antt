use Rattle.std.proofs.Common.{arith, subst}
use Rattle.std.specs.Prelude.{All}
use Rattle.std.proofs.lemmas.Grind.{common_steps}
use Rattle.std.proofs.lemmas.List.{take_all}
use Rattle.std.proofs.lemmas.List.Elements.{All-more}
use Rattle.row_bytes.specs.Fits.{FitsFlow}
use Rattle.row_bytes.proofs.writing.put_flows.Goals as goal

pub loop-flow-preserved : goal.loop-flow-preserved
loop-flow-preserved c = record {
  bytes = grind (arith, common_steps);
  fits = All-more FitsFlow c.args.flows.now c.loop-flow.flow-index _ c.loop-flow-test.true c.loop-flow.invariant.fits c.in_ok-put_flow.ensures.fits;
}

pub returns-clause-fits : goal.returns-clause-fits
returns-clause-fits c = subst (All FitsFlow) (take_all c.loop-flow.flow-index c.args.flows.now c.loop-flow-test.false) c.loop-flow.invariant.fits
