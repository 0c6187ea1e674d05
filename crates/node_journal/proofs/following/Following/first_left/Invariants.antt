use Rattle.std.proofs.Common.{◌≡◌, ◌<◌, ℕ, List, Some, IsTrue, length, slice_get}
use Rattle.node_journal.specs.declared.follower.Follower.{Follower}
use Rattle.node_worker.specs.KeptView.{IsReplay}
use Rattle.node_journal.proofs.following.Following.first_left.Given as goal

abbrev pub invariant-loop-k : goal.invariant-loop-k
invariant-loop-k l =
    (j : ℕ) (f : Follower) (journal : List ℕ) → j < l.k → slice_get l.self.followers.items j ≡ Some f → slice_get l.journals j ≡ Some journal
    → (f.place ≡ length journal) × IsReplay f.kept × IsTrue f.kept.honest
