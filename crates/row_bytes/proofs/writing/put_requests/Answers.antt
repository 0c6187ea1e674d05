use Rattle.std.proofs.Common.{arith, subst}
use Rattle.std.specs.Prelude.{All}
use Rattle.std.proofs.lemmas.Grind.{common_steps}
use Rattle.std.proofs.lemmas.List.{take_all}
use Rattle.std.proofs.lemmas.List.Elements.{All-more}
use Rattle.row_bytes.specs.Fits.{FitsRequest}
use Rattle.row_bytes.proofs.writing.put_requests.Goals as goal

pub loop-request-preserved : goal.loop-request-preserved
loop-request-preserved c = record {
  bytes = grind (arith, common_steps);
  fits = All-more FitsRequest c.args.requests.now c.loop-request.request-index _ c.loop-request-test.true c.loop-request.invariant.fits c.in_ok-put_request.ensures.fits;
}

pub returns-clause-fits : goal.returns-clause-fits
returns-clause-fits c = subst (All FitsRequest) (take_all c.loop-request.request-index c.args.requests.now c.loop-request-test.false) c.loop-request.invariant.fits
