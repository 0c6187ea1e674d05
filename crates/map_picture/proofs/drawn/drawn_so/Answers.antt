use Rattle.std.proofs.Common.{subst, sym}
use Rattle.map_picture.specs.Pictures.{IsRendered}
use Rattle.map_picture.proofs.drawn.drawn_so.Goals as goal

pub drawn_on-requires-clause-definitions : goal.drawn_on-requires-clause-definitions
drawn_on-requires-clause-definitions c = subst IsRendered (sym c.as_str.ensures.value) c.in_ok-known.ensures
