use Rattle.std.proofs.Common.{◌≡◌, ◌≤◌, false}
use Rattle.std.specs.List.{AllWithin}
use Rattle.modem.specs.KeptIntervals.{is_live}
use Rattle.modem.proofs.kept.ended.Given as goal

abbrev pub invariant-loop-i : goal.invariant-loop-i
invariant-loop-i l = (l.from ≤ l.i) × AllWithin (λ k. is_live l.ch l.clock k ≡ false) l.kept l.from l.i
