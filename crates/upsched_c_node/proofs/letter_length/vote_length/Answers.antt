use Rattle.std.proofs.Common.{ap, arith, length, List, ℕ}
use Rattle.upsched_c_node.proofs.Lengths.{of_vote}
use Rattle.upsched_c_node.proofs.letter_length.vote_length.Goals as goal

pub returns-clause-length : goal.returns-clause-length
returns-clause-length c = let size = ap (λ (v : List ℕ). length v) c.as_slice.ensures in omega (arith, size, of_vote c.args.row.now)
