use Rattle.std.proofs.Common.{◌≡◌, drop}
use Rattle.map_picture.specs.Axis.{span_of, with_maps}
use Rattle.map_picture.proofs.axis.span_of.Given as goal

abbrev pub invariant-loop-deed : goal.invariant-loop-deed
invariant-loop-deed l = with_maps l.ch l.span (drop l.deed-index l.deeds) ≡ span_of l.deeds l.ch
