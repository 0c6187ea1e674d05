use Rattle.std.proofs.Common.{◌≡◌, map, take, Some}
use Rattle.upsched_c_node.specs.Letters.{vote_of}
use Rattle.upsched_c_node.proofs.letters_written.votes_in.Given as goal

abbrev pub invariant-loop-vote : goal.invariant-loop-vote
invariant-loop-vote l = map vote_of (take l.vote-index l.votes) ≡ map Some l.rows.items
