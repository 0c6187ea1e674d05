use Rattle.std.proofs.Common.{◌≡◌}
use Rattle.proposer.specs.Bounds.{AreInLog}
use Rattle.proposer.specs.Joining.{place_after}
use Rattle.proposer.proofs.promises.Joined.place_after.Given as goal

abbrev pub invariant-loop-place : goal.invariant-loop-place
invariant-loop-place l = (place_after l.next l.place-iterator ≡ place_after l.fn.first l.fn.self) × AreInLog l.place-iterator
