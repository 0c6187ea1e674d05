use Rattle.std.proofs.Common.{◌≡◌, map, take, drop, length, Some}
use Rattle.upsched_c_node.specs.Letters.{vote_of}
use Rattle.upsched_c_node.proofs.letter_fields.put_votes.Given as goal

-- those so far stand at the front
abbrev pub invariant-loop-i : goal.invariant-loop-i
invariant-loop-i l = record {
  front : map vote_of (take l.i l.votes) ≡ map Some (take l.i l.rows);
  behind : drop l.i l.votes ≡ drop l.i l.initial.votes;
  length : length l.votes ≡ length l.initial.votes;
}
