use Rattle.std.proofs.Common.{◌≡◌, ◌<◌, ◌^◌, drop}
use Rattle.map_picture.specs.Columns.{longest_asked}
use Rattle.map_picture.proofs.columns.longest_asked.Given as goal

abbrev pub invariant-loop-row : goal.invariant-loop-row
invariant-loop-row l = (longest_asked l.longest (drop l.row-index l.rows) ≡ longest_asked l.least l.rows) × (l.longest < 2 ^ 20)
