use Rattle.std.proofs.Common.{◌≡◌, ◌++◌}
use Rattle.node_journal.proofs.sent.Sent.add_all.Given as goal

abbrev pub invariant-loop-letter : goal.invariant-loop-letter
invariant-loop-letter l = l.self ≡ l.initial.self ++ l.yielded
