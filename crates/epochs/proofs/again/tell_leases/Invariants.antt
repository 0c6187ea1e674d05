use Rattle.std.proofs.Common.{◌≡◌, ◌++◌, take}
use Rattle.epochs.specs.Again.{leases_again}
use Rattle.epochs.proofs.again.tell_leases.Given as goal

abbrev pub invariant-loop-lease : goal.invariant-loop-lease
invariant-loop-lease l = l.out.items ≡ l.initial.out.items ++ leases_again l.ch l.next_start (take l.lease-index l.leases)
