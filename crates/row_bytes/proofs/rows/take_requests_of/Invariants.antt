use Rattle.std.proofs.Common.{◌≡◌}
use Rattle.std.specs.Prelude.{IsOk}
use Rattle.row_bytes.specs.Reading.{items_in, request_at}
use Rattle.row_bytes.proofs.Items.{goes_so}
use Rattle.row_bytes.proofs.rows.take_requests_of.Given as goal

abbrev pub invariant-loop : goal.invariant-loop
invariant-loop l = record {
  read : goes_so (λ place. request_at) l.waiting.items l.count l.counter l.rest.now ≡ items_in (λ place. request_at) 0 l.count l.initial.rest.now;
  first : IsOk (request_at l.rest.now) → IsOk (request_at l.initial.rest.now);
}
