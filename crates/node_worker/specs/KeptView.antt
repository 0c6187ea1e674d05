-- A node and what it did, as contracts see it.
use Rattle.std.specs.Prelude.{◌≡◌, ℕ, List, Bool, IsTrue}
use Rattle.node.specs.View.{Standing}
use Rattle.node_worker.specs.Entries.{EntryView}
use Rattle.node_worker.specs.Replays.{EntryStep, ReplaysTo}

-- the node's number, the number of members, the quota, the entries, in how many turns its worker asked what drives it,
-- whether the node is up, how often its store failed, and whether its store returned what it committed
pub record KeptView : Type 0 where
  pub node : ℕ
  pub members : ℕ
  pub quota : ℕ
  pub entries : List EntryView
  pub turns : ℕ
  pub up : Bool
  pub failures : ℕ
  pub honest : Bool

-- its number, and of how many
abbrev pub member_of : KeptView → ℕ × ℕ
member_of k = (k.node, k.members)

-- who it is, and how much it may do
abbrev pub made_as : KeptView → (ℕ × ℕ) × ℕ
made_as k = (member_of k, k.quota)

-- each node of a type has returned what its store committed
abbrev pub AreTrusted : {N : Type 0} → (N → Bool) → Type 0
AreTrusted {N} honest = (n : N) → IsTrue (honest n)

-- a fresh node may stand somewhere after these entries
abbrev pub IsReplay : KeptView → Type 0
IsReplay k = IsTrue k.honest → (t : Standing) × ReplaysTo k.members k.node k.entries t

-- the entry is a step from where the entries may have brought the node
abbrev pub IsStepOf : KeptView → EntryView → Type 0
IsStepOf k e = (s : Standing) × (t : Standing) × ReplaysTo k.members k.node k.entries s × EntryStep k.members k.node s e t

-- the two differ in their entries and in what the entries change
abbrev pub SameNode : KeptView → KeptView → Type 0
SameNode old new = (new.node ≡ old.node) × (new.members ≡ old.members) × (new.quota ≡ old.quota) × (new.turns ≡ old.turns)
