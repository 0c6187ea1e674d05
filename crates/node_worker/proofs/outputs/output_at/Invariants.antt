use Rattle.std.proofs.Common.{◌≡◌, ◌+◌, length, take}
use Rattle.node_worker.specs.Legal.{outputs_of}
use Rattle.node_worker.specs.Places.{IsPlaceOf}
use Rattle.node_worker.proofs.outputs.output_at.Given as goal

abbrev pub invariant-loop-j : goal.invariant-loop-j
invariant-loop-j l = (length (outputs_of (take l.j l.records)) + l.left ≡ l.i) × IsPlaceOf l.records l.place.record l.place.before
