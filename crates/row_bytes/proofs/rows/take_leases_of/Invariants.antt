use Rattle.std.proofs.Common.{◌≡◌}
use Rattle.std.specs.Prelude.{IsOk}
use Rattle.row_bytes.specs.Reading.{items_in, lease_at}
use Rattle.row_bytes.proofs.Items.{goes_so}
use Rattle.row_bytes.proofs.rows.take_leases_of.Given as goal

abbrev pub invariant-loop-place : goal.invariant-loop-place
invariant-loop-place l = record {
  read : goes_so lease_at l.leases.items l.count l.place l.rest.now ≡ items_in lease_at 0 l.count l.initial.rest.now;
  first : IsOk (lease_at l.place l.rest.now) → IsOk (lease_at 0 l.initial.rest.now);
}
