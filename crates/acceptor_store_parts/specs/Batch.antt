-- Writes of a node that one transaction makes, in order.
use Rattle.std.specs.Prelude.{◌≡◌, ℕ, ◌+◌, List, IsTrue, Option, Some}
use Rattle.acceptor.specs.Content.{Content, Write, after_write}
use Rattle.node_writes.specs.declared.write_bytes.WriteBytes.{WriteBytes}
use Rattle.node_writes.specs.Writes.{LeadTo}
use Rattle.sqlite.specs.State.{State}
use Rattle.sqlite.specs.Tree.{Trees}
use Rattle.acceptor_store_parts.specs.declared.owner.Owner.{Owner}
use Rattle.acceptor_store_parts.specs.Making.{HoldsAt}
use Rattle.acceptor_store_parts.specs.Owned.{AreTablesAt, IsNext}
use Rattle.acceptor_store_parts.specs.Serves.{ServesAt}

-- this write leads from one content to the other
abbrev pub Wrote : Write → Content → Content → Type 0
Wrote write c last = last ≡ after_write c (Some write)

-- inside a transaction, the tables hold what they held, with this write, at the same count
abbrev pub PutsInside : Option Write → State → State → Type 0
PutsInside write old new =
    IsTrue new.in_transaction × ((owner : Option Owner) (n : ℕ) (c : Content) → HoldsAt owner n old.now c → HoldsAt owner n new.now (after_write c write))

-- inside a transaction, the tables hold what these writes of a node lead to, at the same count
abbrev pub PutsAllInside : ℕ → List WriteBytes → State → State → Type 0
PutsAllInside id writes old new =
    IsTrue new.in_transaction
    × ((owner : Option Owner) (n : ℕ) (c : Content) → HoldsAt owner n old.now c → (last : Content) × LeadTo id writes c last × HoldsAt owner n new.now last)

-- inside a transaction, the tables hold what this leads to, and count one more
abbrev pub LeadsInside : (Content → Content → Type 0) → Option ℕ → State → State → Type 0
LeadsInside Leads next old new =
    IsTrue new.in_transaction
    × ((owner : Option Owner) (n : ℕ) (c : Content) → IsNext owner n next → HoldsAt owner n old.now c
    → (last : Content) × Leads c last × HoldsAt owner (n + 1) new.now last)

-- inside a transaction, the tables hold what they held, and count one more
abbrev pub CountsInside : Option ℕ → State → State → Type 0
CountsInside next old new =
    IsTrue new.in_transaction
    × ((owner : Option Owner) (n : ℕ) (c : Content) → IsNext owner n next → HoldsAt owner n old.now c → HoldsAt owner (n + 1) new.now c)

-- it serves what these writes of a node lead to from what it served, for the same owner, and counts one more
abbrev pub HasWrittenAll : ℕ → List WriteBytes → Option ℕ → State → State → Type 0
HasWrittenAll id writes next old new =
    (owner : Option Owner) (n : ℕ) (c : Content) → IsNext owner n next → ServesAt owner n old c
    → (last : Content) × LeadTo id writes c last × ServesAt owner (n + 1) new last

-- the trees are what these writes of a node lead to from what it served, of the same owner and at one more
abbrev pub MayHaveWrittenAll : ℕ → List WriteBytes → Option ℕ → State → Trees → Type 0
MayHaveWrittenAll id writes next old db =
    (owner : Option Owner) (n : ℕ) (c : Content) → IsNext owner n next → ServesAt owner n old c
    → (last : Content) × LeadTo id writes c last × AreTablesAt owner (n + 1) db last
