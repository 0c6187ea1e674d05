use Rattle.std.proofs.Common.{◌≡◌, ◌<◌}
use Rattle.map_picture.specs.Scales.{ten_after}
use Rattle.map_picture.proofs.scales.ten_after.Given as goal

abbrev pub invariant-loop-k : goal.invariant-loop-k
invariant-loop-k l = (l.ten ≡ ten_after l._k l.part) × (0 < l.ten)
