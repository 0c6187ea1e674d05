-- What opening a handle does.
use Rattle.std.specs.Prelude.{◌≡◌, ◌⊎◌, ◌==◌, if◌then◌else◌, Bool, true, false, ℕ, ◌<◌, List, [], MatchOption, Result}
use Rattle.std.specs.Prelude.{Ok, Err, Box}
use Rattle.std.specs.declared.alloc.Global.{Global}
use Rattle.acceptor.specs.Content.{Content, no_content}
use Rattle.upsched_c_node.specs.declared.handle.Handle.{Handle}
use Rattle.upsched_c_node.specs.declared.handle.Held.{Held}
use Rattle.upsched_c_node.specs.declared.status.Status.{Status}
use Rattle.upsched_c_node.specs.declared.status.Status.TheVariants as statuses
use Rattle.node_writes.specs.declared.write_bytes.WriteBytes.{WriteBytes}
use Rattle.upsched_c_node.specs.Handles.{held}
use Rattle.upsched_c_node.specs.States.{started_as}
use Rattle.node_writes.specs.Writes.{HasStrange, LeadTo}

-- three or five members, and one's number
abbrev pub IsMember : ℕ → ℕ → Type 0
IsMember id members = ((members ≡ 3) ⊎ (members ≡ 5)) × (id < members)

-- what an opened handle holds: the node started over the content after its writes, which has sent and released nothing
pub record IsStarted (id members : ℕ) (writes : List WriteBytes) (k : Held) : Type 0 where
  pub content : Content
  pub after : LeadTo id writes no_content content
  pub node : k.node ≡ started_as id members content
  pub letters : k.letters.items ≡ []
  pub outputs : k.outputs.items ≡ []

-- a node is made of its writes, unless one of them is none of it, or memory is wanted
abbrev pub MakesNode : ℕ → ℕ → List WriteBytes → Result (Box Held Global) Status → Type 0
MakesNode id members writes (Ok made) = IsStarted id members writes made.value
MakesNode id members writes (Err statuses.BadField) = HasStrange id writes
MakesNode id members writes (Err statuses.OutOfMemory) = ¬ HasStrange id writes
MakesNode id members writes (Err _) = ⊥

-- what is answered to opening a handle that isn't closed
abbrev pub occupied : Handle → Status
occupied h = if h.kind == 2 then statuses.Open else statuses.OtherKind

-- a closed handle is opened
abbrev pub OpensClosed : ℕ → ℕ → List WriteBytes → Handle → Handle → Status → Type 0
OpensClosed id members writes h new statuses.Done = IsMember id members × MatchOption (held new) ⊥ (IsStarted id members writes)
OpensClosed id members writes h new statuses.BadField = (¬ IsMember id members ⊎ HasStrange id writes) × (new ≡ h)
OpensClosed id members writes h new statuses.OutOfMemory = IsMember id members × ¬ HasStrange id writes × (new ≡ h)
OpensClosed id members writes h new _ = ⊥

-- a handle that is closed is opened, and one that isn't stays as it is
abbrev pub OpensIf : (closed : Bool) → ℕ → ℕ → List WriteBytes → Handle → Handle → Status → Type 0
OpensIf true id members writes h new status = OpensClosed id members writes h new status
OpensIf false id members writes h new status = (status ≡ occupied h) × (new ≡ h)

-- a handle is opened with node id of so many members, started over these writes
abbrev pub Opens : ℕ → ℕ → List WriteBytes → Handle → Handle → Status → Type 0
Opens id members writes h new status = OpensIf (h.kind == 0) id members writes h new status
