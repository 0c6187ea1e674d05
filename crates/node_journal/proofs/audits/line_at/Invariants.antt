use Rattle.std.proofs.Common.{◌≡◌, ◌+◌, ◌≤◌, ◌==◌, filter, length, take}
use Rattle.node_journal.proofs.audits.line_at.Given as goal

abbrev pub invariant-loop-i : goal.invariant-loop-i
invariant-loop-i l = (l.line ≡ length (filter (λ byte. byte == 10) (take l.i l.text)) + 1) × (l.line ≤ l.i + 1)
