use Rattle.std.proofs.lemmas.Result.{err_from_is_err_and}
use Rattle.row_bytes.proofs.Taken.{fails_on, goes_on, is_done, whole_first}
use Rattle.row_bytes.proofs.reading.take_tables.Goals as goal

pub loop-preserved : goal.loop-preserved
loop-preserved c =
    let taken = c.in_ok-take_table.ensures.ok in
    record {
      read = goes_on c.args.count c.loop.counter c.args.flows.now c.loop.flows c.take_table.new.flows c.args.rest.now.now c.loop.rest.now c.take_table.new.rest.now c.loop-test.true taken c.loop.invariant.read;
      first = λ _. c.loop.invariant.first (whole_first c.loop.rest.now (taken.taken, c.take_table.new.rest.now) taken.is);
    }

pub returns-clause-ok : goal.returns-clause-ok
returns-clause-ok c = is_done c.args.count c.loop.counter c.args.flows.now c.loop.flows c.args.rest.now.now c.loop.rest.now c.loop-test.false c.loop.invariant.read

pub returns-in_err-take_table-clause-fault : goal.returns-in_err-take_table-clause-fault
returns-in_err-take_table-clause-fault c =
    let fault = err_from_is_err_and c.from_residual.result c.from_residual.ensures.1 in
    rw (fault.1, fault.2)
    (fails_on c.in_err-take_table.field-0.0 c.args.count c.loop.counter c.args.flows.now c.loop.flows c.args.rest.now.now c.loop.rest.now c.loop-test.true c.loop.invariant.first c.loop.invariant.read c.in_err-take_table.ensures.fault)
