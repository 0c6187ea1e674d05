use Rattle.std.proofs.Common.{take, Contains}
use Rattle.node_worker.specs.Legal.{letters_of}
use Rattle.node_worker.proofs.sent.first_sent.Given as goal

abbrev pub invariant-loop-i : goal.invariant-loop-i
invariant-loop-i l = Contains (letters_of (take l.i l.records)) l.letter → ⊥
