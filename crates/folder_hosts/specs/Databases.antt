-- How the databases of a host's epochs are opened.
use Rattle.std.specs.Prelude.{◌≡◌, ◌⊎◌, ℕ, ◌<◌, Bool, true, false, IsTrue, Option, Some, None}
use Rattle.acceptor.specs.Content.{Content}
use Rattle.acceptor.specs.Found.{Holds}
use Rattle.folder_hosts.specs.Faults.{is_missing}
use Rattle.kept_node.specs.declared.store.WriteStore.{Ghosts as Stores}
use Rattle.stored_nodes.specs.Starts.{BeginsOver}
use Rattle.stored_nodes.specs.declared.start.StartFault.{StartFault}

-- they stay of the same member, and no node begins there over a content over which it mightn't before
pub record KeepsDatabases {D : Type 0} (member_of : D → ℕ × ℕ) (begins_of : D → ℕ → Bool → Content → Type 0) (old new : D) : Type 0 where
  pub member : member_of new ≡ member_of old
  pub begins : (e : ℕ) (is_new : Bool) (c : Content) → begins_of new e is_new c → begins_of old e is_new c

-- the database of an epoch wasn't opened as one that is there, for this fault. Where that is that there is none, and
-- the epoch is above those whose databases have to be there, it was opened as a new one; else nothing was done
abbrev pub OpensAnew : {D : Type 0} → (D → ℕ → Bool → Option StartFault → D → Type 0) → (known e : ℕ) → StartFault → D → Option StartFault → D → Type 0
OpensAnew opens known e fault old why new =
    ((known < e) × (is_missing fault ≡ true) × opens old e true why new)
    ⊎ ((known < e → is_missing fault ≡ false) × (why ≡ Some fault) × (new ≡ old))

-- it was opened as one that is there, or else so: no other fault leads to a new one
abbrev pub OpensDatabase : {D : Type 0} → (D → ℕ → Bool → Option StartFault → D → Type 0) → (known e : ℕ) → D → Option StartFault → D → Type 0
OpensDatabase {D} opens known e old why new =
    ((why ≡ None) × opens old e false None new)
    ⊎ ((mid : D) × (fault : StartFault) × opens old e false (Some fault) mid × OpensAnew opens known e fault mid why new)

-- a node may begin over this content in the database of an epoch: some store was opened there, new or not, and if that
-- is honest, it holds the content, which is found there, and is none where the store is new
pub record IsBegun {D W : Type 0} (h : Stores W) (begins : D → ℕ → Bool → Content → Type 0) (databases : D) (e : ℕ) (c : Content) : Type 0 where
  pub is_new : Bool
  pub store : W
  pub over : IsTrue (h.honest store) → Holds (h.may_find store) c × BeginsOver (begins databases e) is_new c
