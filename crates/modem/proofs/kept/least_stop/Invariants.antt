use Rattle.std.proofs.Common.{◌≡◌, ℕ, ◌<◌, ◌≤◌, take, IfSome}
use Rattle.std.specs.List.{All}
use Rattle.modem.specs.Idle.{IsBefore}
use Rattle.modem.proofs.kept.least_stop.Given as goal

abbrev pub invariant-loop-interval : goal.invariant-loop-interval
invariant-loop-interval l =
    IfSome l.least (λ n. l.«at» < n)
    × ((x : ℕ) → IsBefore l.least x → All (λ k. k.channel ≡ l.ch → k.start ≤ l.«at» → l.«at» < k.stop → x < k.stop) (take l.interval-index l.kept))
