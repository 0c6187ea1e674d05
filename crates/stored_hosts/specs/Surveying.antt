-- What a start finds where it looks into a folder.
use Rattle.std.specs.Prelude.{◌≡◌, ℕ, Bool, true, false, List, Result, Err, All, filter, map, ⊤}
use Rattle.std.specs.declared.io.Error.{Error}
use Rattle.stored_hosts.specs.Committing.{file_of}
use Rattle.stored_hosts.specs.Finding.{Finds}
use Rattle.stored_hosts.specs.declared.fault.FolderFault.{FolderFault}
use Rattle.stored_hosts.specs.declared.fault.FolderFault.TheVariants.{Unread, Refused, OutOfMemory}
use Rattle.stored_hosts.specs.declared.finding.Found.{Found}
use Rattle.stored_hosts.specs.declared.finding.StateFile.{StateFile}
use Rattle.stored_hosts.specs.declared.finding.WhichHost.{WhichHost}
use Rattle.stored_hosts.specs.declared.names.FileKind.{FileKind}
use Rattle.stored_hosts.specs.declared.names.FileKind.TheVariants.{State}
use Rattle.stored_hosts.specs.declared.names.HostFile.{HostFile}

abbrev pub is_state : FileKind → Bool
is_state State = true
is_state other = false

module _ {F : Type 0} (holds : F → HostFile → List ℕ → Type 0) (unread : F → Error → Type 0) where
  -- of these files the states were read, in their order, and each may hold these bytes
  pub record AreRead (f : F) (files : List HostFile) (states : List StateFile) : Type 0 where
    pub names : map (λ state. file_of state.epoch State) states ≡ filter (λ file. is_state file.kind) files
    pub bytes : All (λ state. holds f (file_of state.epoch State) state.bytes.items) states

  -- a look into it failed so, or memory ran out
  abbrev pub IsUnread : F → FolderFault → Type 0
  IsUnread f (Unread epoch why) = unread f why
  IsUnread f (Refused why) = unread f why
  IsUnread f OutOfMemory = ⊤
  IsUnread f other = ⊥

  -- it could not be looked into; or this is what a start finds where it has the files that it may have, and the states
  -- hold the bytes that they may hold
  abbrev pub Surveys : (F → List HostFile → Type 0) → WhichHost → F → Result Found FolderFault → Type 0
  Surveys lists which f (Err (Unread epoch why)) = unread f why
  Surveys lists which f (Err (Refused why)) = unread f why
  Surveys lists which f (Err OutOfMemory) = ⊤
  Surveys lists which f found = (files : List HostFile) × (states : List StateFile) × lists f files × AreRead f files states × Finds which files states found
