use Rattle.std.proofs.Common.{arith, subst}
use Rattle.std.specs.Prelude.{All}
use Rattle.std.proofs.lemmas.Grind.{common_steps}
use Rattle.std.proofs.lemmas.List.{take_all}
use Rattle.std.proofs.lemmas.List.Elements.{All-more}
use Rattle.row_bytes.specs.Fits.{FitsLease}
use Rattle.row_bytes.proofs.writing.put_leases.Goals as goal

pub loop-lease-preserved : goal.loop-lease-preserved
loop-lease-preserved c = record {
  bytes = grind (arith, common_steps);
  fits = All-more FitsLease c.args.leases.now c.loop-lease.lease-index _ c.loop-lease-test.true c.loop-lease.invariant.fits c.in_ok-put_lease.ensures.fits;
}

pub returns-clause-fits : goal.returns-clause-fits
returns-clause-fits c = subst (All FitsLease) (take_all c.loop-lease.lease-index c.args.leases.now c.loop-lease-test.false) c.loop-lease.invariant.fits
