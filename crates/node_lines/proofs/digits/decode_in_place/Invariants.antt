use Rattle.node_lines.proofs.InPlace.{Decoded}
use Rattle.node_lines.proofs.digits.decode_in_place.Given as goal

abbrev pub invariant-loop-i : goal.invariant-loop-i
invariant-loop-i l = Decoded l.initial.text l.text l.start l.i
