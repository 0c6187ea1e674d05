use Rattle.std.proofs.Common.{take, All}
use Rattle.std.specs.List.{flat_map}
use Rattle.std.specs.Io.KnownBytes.{Appends}
use Rattle.letter_bytes.specs.Spelling.{FitsVote, vote_spelling}
use Rattle.letter_bytes.proofs.writing.write_votes.Given as goal

abbrev pub invariant-loop-row : goal.invariant-loop-row
invariant-loop-row g l = record {
  bytes : Appends (g.W.Write.contents l.initial.output) (g.W.Write.contents l.output) (flat_map vote_spelling (take l.row-index l.rows));
  fits : All FitsVote (take l.row-index l.rows);
}
