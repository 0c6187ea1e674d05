use Rattle.std.proofs.Common.{◌≡◌}
use Rattle.std.specs.Prelude.{IsOk}
use Rattle.row_bytes.specs.Reading.{flow_at, items_in}
use Rattle.row_bytes.proofs.Items.{goes_so}
use Rattle.row_bytes.proofs.rows.take_flows_of.Given as goal

abbrev pub invariant-loop : goal.invariant-loop
invariant-loop l = record {
  read : goes_so (λ place. flow_at l.ch l.leases) l.flows.items l.count l.counter l.rest.now ≡ items_in (λ place. flow_at l.ch l.leases) 0 l.count l.initial.rest.now;
  first : IsOk (flow_at l.ch l.leases l.rest.now) → IsOk (flow_at l.ch l.leases l.initial.rest.now);
}
