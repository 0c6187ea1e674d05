use Rattle.std.proofs.Common.{◌<◌, ◌^◌}
use Rattle.map_picture.proofs.widths.longest_map.Given as goal

abbrev pub invariant-loop-i : goal.invariant-loop-i
invariant-loop-i l = l.longest < 2 ^ 20
