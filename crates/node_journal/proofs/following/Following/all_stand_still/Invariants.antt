use Rattle.std.proofs.Common.{◌≡◌, ◌<◌, ℕ, List, Some, slice_get}
use Rattle.node_journal.specs.Following.{IsReplayed, IsStill}
use Rattle.node_journal.specs.declared.follower.Follower.{Follower}
use Rattle.node_journal.proofs.following.Following.all_stand_still.Given as goal

abbrev pub invariant-loop-k : goal.invariant-loop-k
invariant-loop-k l =
    (j : ℕ) (f : Follower) (text : List ℕ) → j < l.k → slice_get l.self.followers.items j ≡ Some f → slice_get l.journals j ≡ Some text
    → (j < l.count → IsStill l.self.sent text f) × IsReplayed f
