use Rattle.std.proofs.Common.{refl, subst, sym}
use Rattle.std.specs.Prelude.{IsOk}
use Rattle.std.proofs.lemmas.Result.{err_from_is_err_and}
use Rattle.row_bytes.specs.Reading.{flow_at, items_in, HasItem}
use Rattle.row_bytes.proofs.Items.{ends, goes_on, is_done}
use Rattle.row_bytes.proofs.rows.take_flows_of.Goals as goal

pub returns-in_err-take_flow : goal.returns-in_err-take_flow
returns-in_err-take_flow c =
    let start = c.args.rest.now.now in
    let fault = err_from_is_err_and c.from_residual.result c.from_residual.ensures.1 in
    rw (fault.1, fault.2)
    (ends (λ place. flow_at c.args.ch c.args.leases.now) c.in_err-take_flow.field-0.0 c.loop.flows.items c.args.count c.loop.counter c.loop.rest.now (items_in (λ place. flow_at c.args.ch c.args.leases.now) 0 c.args.count start) c.loop-test.true c.in_err-take_flow.ensures c.loop.invariant.read (HasItem (λ place. flow_at c.args.ch c.args.leases.now) 0 c.args.count start))

pub loop-preserved : goal.loop-preserved
loop-preserved c = record {
  read = rw c.in_ok-push.ensures.items
      (goes_on (λ place. flow_at c.args.ch c.args.leases.now) c.loop.flows.items c.args.count c.loop.counter c.loop.rest.now c.in_ok-take_flow.field-0 c.take_flow.new.rest.now (items_in (λ place. flow_at c.args.ch c.args.leases.now) 0 c.args.count c.args.rest.now.now) c.loop-test.true c.in_ok-take_flow.ensures c.loop.invariant.read);
  first = λ _. c.loop.invariant.first (subst IsOk (sym c.in_ok-take_flow.ensures) refl);
}

pub returns : goal.returns
returns c = is_done (λ place. flow_at c.args.ch c.args.leases.now) c.loop.flows.items c.args.count c.loop.counter c.loop.rest.now (items_in (λ place. flow_at c.args.ch c.args.leases.now) 0 c.args.count c.args.rest.now.now) c.loop-test.false c.loop.invariant.read
