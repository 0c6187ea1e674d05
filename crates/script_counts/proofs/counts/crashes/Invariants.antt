use Rattle.std.proofs.Common.{◌≡◌, ◌+◌, ◌≤◌, length, drop}
use Rattle.script_counts.specs.Counts.{read_off, crash_of, crashes}
use Rattle.script_counts.proofs.counts.crashes.Given as goal

abbrev pub invariant-loop-i : goal.invariant-loop-i
invariant-loop-i l = (l.count + length (read_off crash_of (drop l.i l.events) (drop l.i l.answers)) ≡ crashes l.events l.answers) × (l.count ≤ l.i)
