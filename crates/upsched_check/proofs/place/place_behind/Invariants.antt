use Rattle.std.proofs.Common.{◌≡◌, ◌+◌, ◌≤◌, take, fold}
use Rattle.upsched_check.specs.Lines.{behind}
use Rattle.upsched_check.proofs.place.place_behind.Given as goal

abbrev pub invariant-loop-i : goal.invariant-loop-i
invariant-loop-i l = record {
  reached : (l.line, l.column) ≡ fold behind (1, 1) (take l.i l.text);
  line : l.line ≤ l.i + 1;
  column : l.column ≤ l.i + 1;
}
