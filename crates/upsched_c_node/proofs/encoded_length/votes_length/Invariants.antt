use Rattle.std.proofs.Common.{◌*◌, ◌≤◌}
use Rattle.upsched_c_node.proofs.Encoding.{AreSoFar}
use Rattle.upsched_c_node.proofs.encoded_length.votes_length.Given as goal

abbrev pub invariant-loop-vote : goal.invariant-loop-vote
invariant-loop-vote l = (l.sum ≤ 88 * l.vote-index) × AreSoFar l.votes l.vote-index l.sum
