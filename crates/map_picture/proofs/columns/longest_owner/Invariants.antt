use Rattle.std.proofs.Common.{◌≡◌, ◌<◌, ◌^◌, drop}
use Rattle.map_picture.specs.Columns.{longest_owner}
use Rattle.map_picture.proofs.columns.longest_owner.Given as goal

abbrev pub invariant-loop-row : goal.invariant-loop-row
invariant-loop-row l = (longest_owner l.longest (drop l.row-index l.rows) ≡ longest_owner 0 l.rows) × (l.longest < 2 ^ 20)
