use Rattle.std.proofs.Common.{◌≡◌, ℕ, List, [], Some, length, slice_get}
use Rattle.node_journal.specs.Following.{IsFollowed}
use Rattle.node_journal.specs.declared.follower.Follower.{Follower}
use Rattle.node_journal.proofs.following.Following.begin.Given as goal

abbrev pub invariant-loop-number : goal.invariant-loop-number
invariant-loop-number l =
    (length l.followers.items ≡ l.number)
    × ((k : ℕ) (f : Follower) → slice_get l.followers.items k ≡ Some f → (f.id ≡ k) × (f.members ≡ l.members) × (f.kept.entries ≡ []) × ((text : List ℕ) → IsFollowed text f))
