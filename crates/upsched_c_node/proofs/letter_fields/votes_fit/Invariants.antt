use Rattle.std.proofs.Common.{take}
use Rattle.upsched_c_node.specs.Letters.{VotesFit}
use Rattle.upsched_c_node.proofs.letter_fields.votes_fit.Given as goal

abbrev pub invariant-loop-row : goal.invariant-loop-row
invariant-loop-row l = VotesFit (take l.row-index l.rows)
