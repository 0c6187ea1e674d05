use Rattle.std.proofs.Common.{◌≡◌, ◌+◌, ◌≤◌, ◌++◌, drop}
use Rattle.map_text.specs.Texts.{maps_from}
use Rattle.map_text.proofs.plan_text.put_maps.Given as goal

abbrev pub invariant-loop-deed : goal.invariant-loop-deed
invariant-loop-deed l =
    (l.out.items ++ maps_from l.ch l.maps l.command (drop l.deed-index l.deeds) ≡ l.initial.out.items ++ maps_from l.ch 0 1 l.deeds)
    × (l.maps ≤ l.deed-index) × (l.command ≡ l.deed-index + 1)
