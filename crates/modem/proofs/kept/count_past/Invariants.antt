use Rattle.std.proofs.Common.{◌≡◌, ◌≤◌, true}
use Rattle.std.specs.List.{AllWithin}
use Rattle.modem.specs.KeptIntervals.{is_past}
use Rattle.modem.proofs.kept.count_past.Given as goal

abbrev pub invariant-loop-i : goal.invariant-loop-i
invariant-loop-i l = (l.known ≤ l.i) × AllWithin (λ k. is_past l.ch l.«at» k ≡ true) l.kept 0 l.i
