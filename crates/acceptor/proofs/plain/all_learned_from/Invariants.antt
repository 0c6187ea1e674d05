use Rattle.std.proofs.Common.{◌≡◌, ◌++◌, length}
use Rattle.ballots.specs.Rows.{rows_from}
use Rattle.acceptor.proofs.plain.all_learned_from.Given as goal

abbrev pub invariant-loop-at : goal.invariant-loop-at
invariant-loop-at l = l.rows.items ++ rows_from l.learned.entries l.next ≡ rows_from l.fn.learned.entries l.fn.place

abbrev pub decreases-loop-at : goal.decreases-loop-at
decreases-loop-at l = length (rows_from l.learned.entries l.next)
