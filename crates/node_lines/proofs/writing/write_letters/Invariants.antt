use Rattle.std.proofs.Common.{take}
use Rattle.std.specs.Io.KnownBytes.{Appends}
use Rattle.node_lines.specs.Lines.{letter_lines}
use Rattle.node_lines.proofs.writing.write_letters.Given as goal

abbrev pub invariant-loop-letter : goal.invariant-loop-letter
invariant-loop-letter g l = Appends (g.W.Write.contents l.initial.output) (g.W.Write.contents l.output) (letter_lines (take l.letter-index l.letters))
