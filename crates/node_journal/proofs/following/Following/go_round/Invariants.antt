use Rattle.std.proofs.Common.{◌≡◌}
use Rattle.node_journal.specs.Following.{IsReached}
use Rattle.node_journal.proofs.following.Following.go_round.Given as goal

abbrev pub invariant-loop-k : goal.invariant-loop-k
invariant-loop-k l = IsReached l.journals l.self × (l.self.members ≡ l.initial.self.members)
