use Rattle.std.proofs.Common.{take}
use Rattle.node_lines.specs.Input.{IsLine}
use Rattle.node_journal.proofs.texts.split_line.Given as goal

abbrev pub invariant-loop-i : goal.invariant-loop-i
invariant-loop-i l = IsLine (take l.i l.text)
