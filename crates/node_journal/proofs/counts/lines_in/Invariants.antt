use Rattle.std.proofs.Common.{◌≡◌, ◌≤◌, ◌==◌, filter, length, take}
use Rattle.node_journal.proofs.counts.lines_in.Given as goal

abbrev pub invariant-loop-i : goal.invariant-loop-i
invariant-loop-i l = (l.lines ≡ length (filter (λ byte. byte == 10) (take l.i l.text))) × (l.lines ≤ l.i)
