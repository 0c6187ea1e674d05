use Rattle.std.proofs.Common.{◌≡◌}
use Rattle.node_journal.specs.Following.{IsReached}
use Rattle.node_journal.proofs.following.Following.go_all.Given as goal

abbrev pub invariant-loop : goal.invariant-loop
invariant-loop l = IsReached l.journals l.self × (l.self.members ≡ l.initial.self.members)
