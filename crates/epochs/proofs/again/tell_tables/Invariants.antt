use Rattle.std.proofs.Common.{◌≡◌, ◌++◌, take}
use Rattle.epochs.specs.Again.{again_of}
use Rattle.epochs.proofs.again.tell_tables.Given as goal

abbrev pub invariant-loop-k : goal.invariant-loop-k
invariant-loop-k l = l.out.items ≡ l.initial.out.items ++ again_of (take l.k l.rows)
