use Rattle.std.proofs.Common.{◌≡◌}
use Rattle.map_picture.specs.Scales.{multiples}
use Rattle.map_picture.proofs.scales.numbers_by.Given as goal

-- those so far
abbrev pub invariant-loop-n : goal.invariant-loop-n
invariant-loop-n l = l.numbers.items ≡ multiples l.before l.step l.n
