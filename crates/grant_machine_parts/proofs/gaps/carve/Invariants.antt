use Rattle.std.proofs.Common.{◌≡◌, take}
use Rattle.grant_machine_parts.specs.Gaps.{carved}
use Rattle.grant_machine_parts.proofs.gaps.carve.Given as goal

abbrev pub invariant-loop-gap : goal.invariant-loop-gap
invariant-loop-gap l = l.left.items ≡ carved l.from l.to (take l.gap-index l.gaps)
