use Rattle.std.proofs.Common.{◌≡◌, ◌+◌, ◌≤◌, drop}
use Rattle.node_journal.specs.Counts.{lives_in}
use Rattle.node_journal.proofs.counts.lives_in.Given as goal

abbrev pub invariant-loop-i : goal.invariant-loop-i
invariant-loop-i l = (l.lives + lives_in (drop l.i l.text) ≡ lives_in l.text) × (l.lives ≤ l.i)
