use Rattle.std.proofs.Common.{◌≡◌, ◌≤◌, length, take}
use Rattle.map_picture.specs.Picked.{leases_on}
use Rattle.map_picture.proofs.picked.leases_on.Given as goal

abbrev pub invariant-loop-row : goal.invariant-loop-row
invariant-loop-row l = (l.rows.items ≡ leases_on l.ch (take l.row-index l.leases)) × (length l.rows.items ≤ l.row-index)
