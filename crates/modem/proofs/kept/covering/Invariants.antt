use Rattle.std.proofs.Common.{◌≡◌, false, take}
use Rattle.std.specs.List.{list_any}
use Rattle.modem.specs.KeptIntervals.{kept_interval, is_at}
use Rattle.modem.proofs.kept.covering.Given as goal

abbrev pub invariant-loop-interval : goal.invariant-loop-interval
invariant-loop-interval l = list_any (λ k. is_at l.ch l.«at» l.sid l.iuc (kept_interval k)) (take l.interval-index l.near) ≡ false
