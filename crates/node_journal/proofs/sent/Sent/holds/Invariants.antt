use Rattle.std.proofs.Common.{Contains, take}
use Rattle.node_journal.proofs.sent.Sent.holds.Given as goal

abbrev pub invariant-loop-i : goal.invariant-loop-i
invariant-loop-i l = Contains (take l.i l.self) l.letter → ⊥
