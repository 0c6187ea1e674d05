use Rattle.std.proofs.Common.{◌≡◌, ◌++◌, replicate}
use Rattle.map_text.proofs.lines.put_spaces.Given as goal

abbrev pub invariant-loop-column : goal.invariant-loop-column
invariant-loop-column l = l.out.items ≡ l.initial.out.items ++ replicate l._column 32
