use Rattle.std.proofs.Common.{◌≡◌, ◌++◌, take, All}
use Rattle.std.specs.List.{flat_map}
use Rattle.row_bytes.specs.Fits.{FitsLease}
use Rattle.row_bytes.specs.Spelling.{lease_spelling}
use Rattle.row_bytes.proofs.writing.put_leases.Given as goal

abbrev pub invariant-loop-lease : goal.invariant-loop-lease
invariant-loop-lease l = record {
  bytes : l.out.items ≡ l.initial.out.items ++ flat_map lease_spelling (take l.lease-index l.leases);
  fits : All FitsLease (take l.lease-index l.leases);
}
