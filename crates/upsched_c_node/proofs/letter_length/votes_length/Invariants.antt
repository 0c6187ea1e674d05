use Rattle.std.proofs.Common.{◌≡◌, All, flat_map, length, take}
use Rattle.letter_bytes.specs.Spelling.{FitsVote, vote_spelling}
use Rattle.upsched_c_node.proofs.letter_length.votes_length.Given as goal

abbrev pub invariant-loop-row : goal.invariant-loop-row
invariant-loop-row l = (l.sum ≡ length (flat_map vote_spelling (take l.row-index l.rows))) × All FitsVote (take l.row-index l.rows)
