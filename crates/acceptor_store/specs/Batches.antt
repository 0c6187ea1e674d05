-- Writes of a node that are made all at once.
use Rattle.std.specs.Prelude.{◌⊎◌, ℕ, List, Result, IfErr, OnOk}
use Rattle.acceptor.specs.Content.{Content}
use Rattle.acceptor.specs.Faults.{IsHarmless}
use Rattle.acceptor.specs.Found.{Findable, FindsSame, Holds, HoldsEither}
use Rattle.acceptor.specs.declared.records.RecordsFault.{RecordsFault}
use Rattle.node_writes.specs.declared.write_bytes.WriteBytes.{WriteBytes}
use Rattle.node_writes.specs.Writes.{LeadTo}

-- the records hold what these writes of a node lead to
abbrev pub HasMadeAll : Findable → Findable → ℕ → List WriteBytes → Type 0
HasMadeAll old new id writes = (c : Content) → Holds old c → (last : Content) × LeadTo id writes c last × Holds new last

-- they hold what they held, or what these writes of a node lead to
abbrev pub MayHaveMadeAll : Findable → Findable → ℕ → List WriteBytes → Type 0
MayHaveMadeAll old new id writes = (c last : Content) → Holds old c → LeadTo id writes c last → HoldsEither new c last

-- whatever may be found was to be found before, or is what these writes of a node lead to from that
abbrev pub AddsOnlyAll : Findable → Findable → ℕ → List WriteBytes → Type 0
AddsOnlyAll old new id writes = (d : Content) → new d → ∥ (old d ⊎ ((c : Content) × old c × LeadTo id writes c d)) ∥₁

-- writes of a node that are Ok were all made, a harmless fault changed nothing, after any other all are there or none,
-- and nothing else was written
pub record WritesAll {T : Type 0} (result : Result T RecordsFault) (old new : Findable) (id : ℕ) (writes : List WriteBytes) : Type 0 where
  pub ok : OnOk result (HasMadeAll old new id writes)
  pub harmless : IfErr result (λ e. IsHarmless e → FindsSame old new)
  pub doubt : MayHaveMadeAll old new id writes
  pub only : AddsOnlyAll old new id writes
