use Rattle.std.proofs.Common.{◌≡◌, ◌++◌}
use Rattle.map_text.specs.Bars.{bar_mark, columns}
use Rattle.map_text.proofs.bars.put_bar.Given as goal

abbrev pub invariant-loop-column : goal.invariant-loop-column
invariant-loop-column l = l.out.items ≡ l.initial.out.items ++ columns (bar_mark l.from l.to l.len l.mark) l.column
