use Rattle.std.proofs.Common.{refl, subst, sym}
use Rattle.std.specs.Prelude.{IsOk}
use Rattle.std.proofs.lemmas.Result.{err_from_is_err_and}
use Rattle.row_bytes.specs.Reading.{items_in, lease_at, HasItem}
use Rattle.row_bytes.proofs.Items.{ends, goes_on, is_done}
use Rattle.row_bytes.proofs.rows.take_leases_of.Goals as goal

pub returns-in_err-take_lease : goal.returns-in_err-take_lease
returns-in_err-take_lease c =
    let start = c.args.rest.now.now in
    let fault = err_from_is_err_and c.from_residual.result c.from_residual.ensures.1 in
    rw (fault.1, fault.2)
    (ends lease_at c.in_err-take_lease.field-0.0 c.loop-place.leases.items c.args.count c.loop-place.place c.loop-place.rest.now (items_in lease_at 0 c.args.count start) c.loop-place-test.true c.in_err-take_lease.ensures c.loop-place.invariant.read (HasItem lease_at 0 c.args.count start))

pub loop-place-preserved : goal.loop-place-preserved
loop-place-preserved c = record {
  read = rw c.in_ok-push.ensures.items
      (goes_on lease_at c.loop-place.leases.items c.args.count c.loop-place.place c.loop-place.rest.now c.in_ok-take_lease.field-0 c.take_lease.new.rest.now (items_in lease_at 0 c.args.count c.args.rest.now.now) c.loop-place-test.true c.in_ok-take_lease.ensures c.loop-place.invariant.read);
  first = λ _. c.loop-place.invariant.first (subst IsOk (sym c.in_ok-take_lease.ensures) refl);
}

pub returns : goal.returns
returns c = is_done lease_at c.loop-place.leases.items c.args.count c.loop-place.place c.loop-place.rest.now (items_in lease_at 0 c.args.count c.args.rest.now.now) c.loop-place-test.false c.loop-place.invariant.read
