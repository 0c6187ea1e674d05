use Rattle.std.proofs.Common.{◌≡◌, drop}
use Rattle.grant_machine_parts.specs.Placing.{holder}
use Rattle.grant_machine_parts.proofs.drawing.holder.Given as goal

-- none so far holds it
abbrev pub invariant-loop-placement : goal.invariant-loop-placement
invariant-loop-placement l = holder l.placements l.x ≡ holder (drop l.placement-index l.placements) l.x
