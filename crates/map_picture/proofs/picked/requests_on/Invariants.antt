use Rattle.std.proofs.Common.{◌≡◌, ◌≤◌, length, take}
use Rattle.map_picture.specs.Picked.{requests_on}
use Rattle.map_picture.proofs.picked.requests_on.Given as goal

abbrev pub invariant-loop-row : goal.invariant-loop-row
invariant-loop-row l = (l.rows.items ≡ requests_on l.ch (take l.row-index l.requests)) × (length l.rows.items ≤ l.row-index)
