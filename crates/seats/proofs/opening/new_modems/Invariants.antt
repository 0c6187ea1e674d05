use Rattle.std.proofs.Common.{take}
use Rattle.seats.proofs.Fresh.{AreModems}
use Rattle.seats.proofs.opening.new_modems.Given as goal

abbrev pub invariant-loop-id : goal.invariant-loop-id
invariant-loop-id l = AreModems l.modems.items (take l.id-index l.ids)
