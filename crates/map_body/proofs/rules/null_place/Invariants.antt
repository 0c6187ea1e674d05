use Rattle.map_body.specs.Rules.{NoNullBefore}
use Rattle.map_body.proofs.rules.null_place.Given as goal

abbrev pub invariant-loop-i : goal.invariant-loop-i
invariant-loop-i l = NoNullBefore l.elements l.i
