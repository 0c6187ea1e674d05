-- A connection that serves the records.
use Rattle.std.specs.Prelude.{◌≡◌, ℕ, ◌+◌, false, IsTrue, Option, Some, Result, Ok, Err}
use Rattle.sqlite.specs.State.{State}
use Rattle.sqlite.specs.Tree.{Trees}
use Rattle.acceptor.specs.Content.{Content, Write, after_write}
use Rattle.acceptor_store_parts.specs.Tables.{schema_of}
use Rattle.acceptor_store_parts.specs.declared.Stop.{Stop}
use Rattle.acceptor_store_parts.specs.Stops.{LeavesOpen}
use Rattle.acceptor_store_parts.specs.declared.Version.{Version}
use Rattle.acceptor_store_parts.specs.declared.owner.Owner.{Owner}
use Rattle.acceptor_store_parts.specs.Stored.{AreTablesOf}
use Rattle.acceptor_store_parts.specs.Owned.{AreTablesAt, AreTablesFor, IsNext, IsOwnedAt, schema_for}

-- it is open, outside a transaction, and its tables of this version hold the content
pub record ServesAs (version : Version) (s : State) (c : Content) : Type 0 where
  pub is_open : IsTrue s.is_open
  pub autocommit : s.in_transaction ≡ false
  pub settled : s.now ≡ s.committed
  pub schema : s.now.schema ≡ schema_of version
  pub tables : AreTablesOf version s.now.trees c

-- the same of the tables that records of this owner, or of none, are served from
pub record ServesFor (owner : Option Owner) (s : State) (c : Content) : Type 0 where
  pub is_open : IsTrue s.is_open
  pub autocommit : s.in_transaction ≡ false
  pub settled : s.now ≡ s.committed
  pub schema : s.now.schema ≡ schema_for owner
  pub tables : AreTablesFor owner s.now.trees c

-- at this count
pub record ServesAt (owner : Option Owner) (n : ℕ) (s : State) (c : Content) : Type 0 where
  pub serves : ServesFor owner s c
  pub counted : IsOwnedAt owner n s.now.trees

-- whoever's the records are
abbrev pub Serves : State → Content → Type 0
Serves s c = (owner : Option Owner) × ServesFor owner s c

-- what it served before, it serves, for the same owner and at the same count
abbrev pub StillServes : State → State → Type 0
StillServes old new = (owner : Option Owner) (n : ℕ) (c : Content) → ServesAt owner n old c → ServesAt owner n new c

-- it serves no content
abbrev pub DoesNotServe : State → Type 0
DoesNotServe s = (c : Content) → Serves s c → ⊥

-- its schema is that of no version
abbrev pub IsOther : State → Type 0
IsOther s = (version : Version) → s.now.schema ≡ schema_of version → ⊥

-- the connection was open, and serves what it served
abbrev pub Stays : State → State → Type 0
Stays old new = IsTrue old.is_open × StillServes old new

-- it serves what it served, with this write, for the same owner, and counts one more: where that is the count to write
abbrev pub HasWritten : Option ℕ → State → State → Write → Type 0
HasWritten next old new write =
    (owner : Option Owner) (n : ℕ) (c : Content) → IsNext owner n next → ServesAt owner n old c → ServesAt owner (n + 1) new (after_write c (Some write))

-- the trees are what it served, with this write, of the same owner and at one more
abbrev pub MayHaveWritten : Option ℕ → State → Write → Trees → Type 0
MayHaveWritten next old write db =
    (owner : Option Owner) (n : ℕ) (c : Content) → IsNext owner n next → ServesAt owner n old c → AreTablesAt owner (n + 1) db (after_write c (Some write))

-- the connection is open still
abbrev pub StaysOpen : {T : Type 0} → Result T Stop → Type 0
StaysOpen (Ok _) = Unit {0}
StaysOpen (Err stop) = LeavesOpen stop
