use Rattle.std.proofs.Common.{◌≡◌, ◌<◌, ◌≤◌, IfSome, length}
use Rattle.node_journal.specs.Following.{IsReached}
use Rattle.node_journal.proofs.following.Following.first_torn.Given as goal

abbrev pub invariant-loop : goal.invariant-loop
invariant-loop l =
    IsReached l.journals l.self × (l.self.members ≡ l.initial.self.members) × (l.count ≤ length l.journals)
    × IfSome l.first (λ k. k < length l.journals)
