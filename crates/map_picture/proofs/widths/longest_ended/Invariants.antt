use Rattle.std.proofs.Common.{◌<◌, ◌^◌}
use Rattle.map_picture.proofs.widths.longest_ended.Given as goal

abbrev pub invariant-loop-row : goal.invariant-loop-row
invariant-loop-row l = l.longest < 2 ^ 20
