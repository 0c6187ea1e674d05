use Rattle.std.proofs.Common.{ℕ, ◌<◌, ◌≤◌, take, IfSome}
use Rattle.std.specs.List.{All}
use Rattle.modem.specs.Idle.{IsBefore, IsSameIn}
use Rattle.modem.proofs.leases.next_edge.Given as goal

abbrev pub invariant-loop-lease : goal.invariant-loop-lease
invariant-loop-lease l =
    IfSome l.next (λ n. l.«at» < n)
    × ((x : ℕ) → l.«at» ≤ x → IsBefore l.next x → All (IsSameIn l.ch l.«at» x) (take l.lease-index l.leases))
