use Rattle.std.proofs.Common.{◌≡◌, ◌++◌, ◌-◌, length, take}
use Rattle.ballots.specs.Rows.{rows_from}
use Rattle.node.specs.Step.{known_letters}
use Rattle.node.proofs.letters.known_letters.Given as goal

abbrev pub invariant-loop-told : goal.invariant-loop-told
invariant-loop-told l = (l.letters.items ++ known_letters l.from l.to (take (64 - length l.letters.items) (rows_from l.learned.entries l.next)) ≡ known_letters l.fn.from l.fn.to (take 64 (rows_from l.fn.learned.entries l.fn.place))) × (length l.letters.items ≡ l._told)
