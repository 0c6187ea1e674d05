use Rattle.std.proofs.Common.{take, Contains}
use Rattle.node_worker.proofs.sent.first_place.Given as goal

abbrev pub invariant-loop-i : goal.invariant-loop-i
invariant-loop-i l = Contains (take l.i l.letters) l.letter → ⊥
