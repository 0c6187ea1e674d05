-- What a host's folder and its databases are asked.
use Rattle.std.specs.Prelude.{◌≡◌, ◌⊎◌, ℕ, List, Option}
use Rattle.folder_hosts.specs.declared.opens.FolderOpens.{FolderOpens}
use Rattle.proposer.specs.declared.fault.NodeFault.{NodeFault}
use Rattle.proposer.specs.declared.fault.NodeFault.TheVariants.{OutOfMemory, StoreRefused}
use Rattle.stored_hosts.specs.Acts.{Act}
use Rattle.stored_hosts.specs.Leaving.{FailsToLeave, HasLeft}
use Rattle.stored_hosts.specs.declared.names.HostFile.{HostFile}

-- a call on the folder or a database fails so
abbrev pub may_fail : NodeFault → Type 0
may_fail fault = (fault ≡ OutOfMemory) ⊎ (fault ≡ StoreRefused)

-- its allocator stays, and which databases have to be there
pub record SameElse {F D : Type 0} (old new : FolderOpens F D) : Type 0 where
  pub alloc : new.alloc ≡ old.alloc
  pub known : new.known ≡ old.known

-- what no start needs where the state of this epoch counts was let go, as far as that went
abbrev pub LetsGo : {F E : Type 0} → (F → List HostFile → Type 0) → (F → E → Type 0) → (F → Act → Option E → F → Type 0) → ℕ → F → F → Type 0
LetsGo {F} {E} lists unread does counts f g = HasLeft lists unread does counts f g ⊎ ((why : E) × FailsToLeave lists unread does counts f why g)
