use Rattle.std.proofs.Common.{◌≡◌, ◌≤◌, ◌++◌, drop, length}
use Rattle.map_picture.specs.Picked.{maps_from, maps_on}
use Rattle.map_picture.proofs.picked.maps_on.Given as goal

abbrev pub invariant-loop-i : goal.invariant-loop-i
invariant-loop-i l =
    (l.rows.items ++ maps_from l.ch l.i (drop l.i l.deeds) ≡ maps_on l.ch l.deeds)
    × (length l.rows.items ≤ l.i)
