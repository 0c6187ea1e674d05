-- Writes that are counted.
use Rattle.std.specs.Prelude.{ℕ, ◌+◌, List, Option, Some}
use Rattle.acceptor.specs.Content.{Content, Write, after_write}
use Rattle.node_writes.specs.Writes.{LeadTo}
use Rattle.node_writes.specs.declared.write_bytes.WriteBytes.{WriteBytes}
use Rattle.sqlite.specs.State.{State}
use Rattle.sqlite.specs.Tree.{Trees}
use Rattle.acceptor_store_parts.specs.Owned.{AreTablesAt, IsNext}
use Rattle.acceptor_store_parts.specs.declared.owner.Owner.{Owner}
use Rattle.acceptor_store.specs.Linked.{IsKnownCount, ServesKnown}

-- what comes next where this count is known: the count that the next transaction writes, which is known then
abbrev pub Follows : Option ℕ → Option ℕ → Type 0
Follows count next = (owner : Option Owner) (n : ℕ) → IsKnownCount owner n count → IsNext owner n next × IsKnownCount owner (n + 1) next

-- the trees are this owner's of this content, and count one more than is known
abbrev pub AreTablesNext : Option Owner → Option ℕ → Trees → Content → Type 0
AreTablesNext owner count db c = (n : ℕ) × IsKnownCount owner n count × AreTablesAt owner (n + 1) db c

-- it serves what it served with this write, at the next count
abbrev pub HasCounted : Option Owner → Option ℕ → Option ℕ → State → State → Write → Type 0
HasCounted owner count next old new write = (c : Content) → ServesKnown owner count old c → ServesKnown owner next new (after_write c (Some write))

-- the trees are what it served with this write, and count one more
abbrev pub MayHaveCounted : Option Owner → Option ℕ → State → Write → Trees → Type 0
MayHaveCounted owner count old write db = (c : Content) → ServesKnown owner count old c → AreTablesNext owner count db (after_write c (Some write))

-- the same of writes of a node that are made all at once, which count one more together
abbrev pub HasCountedAll : Option Owner → Option ℕ → Option ℕ → ℕ → List WriteBytes → State → State → Type 0
HasCountedAll owner count next id writes old new =
    (c : Content) → ServesKnown owner count old c → (last : Content) × LeadTo id writes c last × ServesKnown owner next new last

abbrev pub MayHaveCountedAll : Option Owner → Option ℕ → ℕ → List WriteBytes → State → Trees → Type 0
MayHaveCountedAll owner count id writes old db =
    (c : Content) → ServesKnown owner count old c → (last : Content) × LeadTo id writes c last × AreTablesNext owner count db last
