use Rattle.std.proofs.Common.{◌+◌, ◌<◌, ◌≤◌}
use Rattle.std.specs.List.{AllWithin}
use Rattle.modem.specs.KeptIntervals.{place, place_of}
use Rattle.modem.proofs.kept.count_begun.Given as goal

abbrev pub invariant-loop-i : goal.invariant-loop-i
invariant-loop-i l = (l.past ≤ l.i) × AllWithin (λ k. place_of k < place l.ch l.«at» + 1) l.kept 0 l.i
