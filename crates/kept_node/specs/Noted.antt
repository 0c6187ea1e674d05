-- A node in memory beside a store, and the writes that wait to be stored.
use Rattle.std.specs.Prelude.{◌≡◌, ℕ, ◌<◌, List, IsTrue, None, vec_capacity, vec_len}
use Rattle.acceptor.specs.Content.{AreRowsFrom, Content}
use Rattle.acceptor.specs.Found.{Findable, Holds, HoldsEither}
use Rattle.acceptor.specs.declared.records.RecordsFault.{RecordsFault}
use Rattle.acceptor.specs.declared.records.RecordsFault.TheVariants.{Refused, Broken, OutOfMemory}
use Rattle.node_writes.specs.Writes.{LeadTo}
use Rattle.node_writes.specs.declared.write_bytes.WriteBytes.{WriteBytes}
use Rattle.kept_node.specs.declared.noted.NotedWrites.{NotedWrites}
use Rattle.kept_node.specs.declared.store.WriteStore.{Ghosts as Stores}

-- an honest store holds this content
abbrev pub IsKept : {W : Type 0} → Stores W → W → Content → Type 0
IsKept h store c = IsTrue (h.honest store) → Holds (h.may_find store) c

-- what a store holds, from which the writes that wait lead to what a node has in memory; its votes are in order
pub record WaitsOver {W : Type 0} (h : Stores W) (store : W) (id : ℕ) (waiting : List WriteBytes) (c base : Content) : Type 0 where
  pub holds : Holds (h.may_find store) base
  pub ordered : AreRowsFrom 1 base.votes
  pub leads : LeadTo id waiting base c

-- the writes of node id wait so for an honest store
abbrev pub IsNoted : {W : Type 0} → Stores W → W → ℕ → List WriteBytes → Content → Type 0
IsNoted h store id waiting c = IsTrue (h.honest store) → ∥ ((base : Content) × WaitsOver h store id waiting c base) ∥₁

-- so they are noted, while they can be stored
abbrev pub NotesTo : {W : Type 0} (h : Stores W) → NotedWrites W → ℕ → Content → Type 0
NotesTo h noted id c = noted.ended ≡ None → IsNoted h noted.store id noted.waiting.items c

-- there is room for one more
abbrev pub HasRoom : {W : Type 0} → NotedWrites W → Type 0
HasRoom noted = vec_len noted.waiting < vec_capacity noted.waiting

-- nothing waits for an honest store, which holds what a node has in memory
pub record HasKept {W : Type 0} (h : Stores W) (noted : NotedWrites W) (c : Content) : Type 0 where
  pub goes_on : noted.ended ≡ None
  pub kept : IsKept h noted.store c

-- what a store holds, where writes that led from one content to another weren't stored for this fault: a broken store
-- may hold either
abbrev pub IsLeftBy : RecordsFault → Findable → Content → Content → Type 0
IsLeftBy Refused found base last = Holds found base
IsLeftBy OutOfMemory found base last = Holds found base
IsLeftBy Broken found base last = HoldsEither found base last

-- writes that led to a content weren't stored for this fault: an honest store has what is left by it
pub record FailsToStore {W : Type 0} (h : Stores W) (why : RecordsFault) (old new : W) (c : Content) : Type 0 where
  pub honest : IsTrue (h.honest new) → IsTrue (h.honest old)
  pub left : IsTrue (h.honest new) → (base : Content) → Holds (h.may_find old) base → IsLeftBy why (h.may_find new) base c
