use Rattle.std.proofs.Common.{◌≡◌, ◌++◌, take, All}
use Rattle.std.specs.List.{flat_map}
use Rattle.row_bytes.specs.Fits.{FitsFlow}
use Rattle.row_bytes.specs.Spelling.{flow_spelling}
use Rattle.row_bytes.proofs.writing.put_flows.Given as goal

abbrev pub invariant-loop-flow : goal.invariant-loop-flow
invariant-loop-flow l = record {
  bytes : l.out.items ≡ l.initial.out.items ++ flat_map flow_spelling (take l.flow-index l.flows);
  fits : All FitsFlow (take l.flow-index l.flows);
}
