use Rattle.std.proofs.Common.{◌≡◌, ◌<◌, ◌^◌, drop}
use Rattle.map_picture.specs.Columns.{longest_before}
use Rattle.map_picture.proofs.columns.longest_before.Given as goal

abbrev pub invariant-loop-row : goal.invariant-loop-row
invariant-loop-row l = (longest_before l.span l.longest (drop l.row-index l.rows) ≡ longest_before l.span 0 l.rows) × (l.longest < 2 ^ 20)
