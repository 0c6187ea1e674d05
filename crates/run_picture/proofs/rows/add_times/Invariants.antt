use Rattle.std.proofs.Common.{◌≡◌, ◌++◌, replicate}
use Rattle.run_picture.proofs.rows.add_times.Given as goal

-- so many so far
abbrev pub invariant-loop-i : goal.invariant-loop-i
invariant-loop-i l = l.rows.items ≡ l.initial.rows.items ++ replicate l.i l.y
