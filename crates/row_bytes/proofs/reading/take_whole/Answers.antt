use Rattle.std.proofs.lemmas.Result.{err_from_is_err_and}
use Rattle.row_bytes.proofs.Taken.{flows_fail, requests_fail}
use Rattle.row_bytes.proofs.reading.take_whole.Goals as goal

pub returns-in_err-flows : goal.returns-in_err-flows
returns-in_err-flows c =
    let fault = err_from_is_err_and c.from_residual-in_err-flows.result c.from_residual-in_err-flows.ensures.1 in
    rw (fault.1, fault.2)
    (flows_fail c.in_err-flows.field-0.0 c.args.rest.now.now c.in_ok-row.row c.take_row.new.rest.now c.in_ok-leases.leases.items c.take_leases.new.rest.now c.in_ok-row.ensures c.in_ok-leases.ensures
    (rw c.as_slice.ensures.value at c.in_err-flows.ensures))

pub returns-in_err-waiting : goal.returns-in_err-waiting
returns-in_err-waiting c =
    let fault = err_from_is_err_and c.from_residual-in_err-waiting.result c.from_residual-in_err-waiting.ensures.1 in
    rw (fault.1, fault.2)
    (requests_fail c.in_err-waiting.field-0.0 c.args.rest.now.now c.in_ok-row.row c.take_row.new.rest.now c.in_ok-leases.leases.items c.take_leases.new.rest.now c.in_ok-flows.flows.items c.take_flows.new.rest.now c.in_ok-row.ensures c.in_ok-leases.ensures
    (rw c.as_slice.ensures.value at c.in_ok-flows.ensures) c.in_err-waiting.ensures)
