use Rattle.std.proofs.Common.{◌≡◌, ◌++◌, take, All}
use Rattle.std.specs.List.{flat_map}
use Rattle.row_bytes.specs.Fits.{FitsRequest}
use Rattle.row_bytes.specs.Spelling.{request_spelling}
use Rattle.row_bytes.proofs.writing.put_requests.Given as goal

abbrev pub invariant-loop-request : goal.invariant-loop-request
invariant-loop-request l = record {
  bytes : l.out.items ≡ l.initial.out.items ++ flat_map request_spelling (take l.request-index l.requests);
  fits : All FitsRequest (take l.request-index l.requests);
}
