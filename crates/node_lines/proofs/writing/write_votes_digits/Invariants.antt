use Rattle.std.proofs.Common.{take}
use Rattle.std.specs.Io.KnownBytes.{Appends}
use Rattle.std.specs.List.{flat_map}
use Rattle.node_lines.specs.Lines.{vote_digits}
use Rattle.node_lines.proofs.writing.write_votes_digits.Given as goal

abbrev pub invariant-loop-row : goal.invariant-loop-row
invariant-loop-row g l = Appends (g.W.Write.contents l.initial.output) (g.W.Write.contents l.output) (flat_map vote_digits (take l.row-index l.rows))
