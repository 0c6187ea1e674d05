-- Why there is no host over a folder, and what a host tells of a call on the folder that failed.
use Rattle.std.specs.IoError.{error_kind}
use Rattle.std.specs.Prelude.{◌≡◌, ◌≢◌, ◌⊎◌, ℕ, Bool, true, false, if◌then◌else◌}
use Rattle.std.specs.declared.io.Error.{Error}
use Rattle.std.specs.declared.io.ErrorKind.TheVariants as kind
use Rattle.acceptor_store.specs.declared.OpenFault.TheVariants as opening
use Rattle.acceptor_store.specs.declared.owned.OwnerFault.TheVariants as owner
use Rattle.folder_hosts.specs.declared.fault.HostStartFault.{HostStartFault}
use Rattle.folder_hosts.specs.declared.fault.HostStartFault.TheVariants as fault
use Rattle.folder_hosts.specs.declared.fault.StateCause.TheVariants as cause
use Rattle.proposer.specs.declared.fault.NodeFault.{NodeFault}
use Rattle.proposer.specs.declared.fault.NodeFault.TheVariants as node
use Rattle.stored_hosts.specs.declared.fault.FolderFault.{FolderFault}
use Rattle.stored_hosts.specs.declared.fault.FolderFault.TheVariants as folder
use Rattle.stored_nodes.specs.Faults.{file_fault}
use Rattle.stored_nodes.specs.declared.start.FileFault.{FileFault}
use Rattle.stored_nodes.specs.declared.start.StartFault.{StartFault}
use Rattle.stored_nodes.specs.declared.start.StartFault.TheVariants as start

-- there is no database: no file, or one without tables
abbrev pub is_missing : StartFault → Bool
is_missing start.NoFile = true
is_missing (start.Unopened owner.Blank) = true
is_missing other = false

-- it wasn't opened for want of memory
abbrev pub is_want : StartFault → Bool
is_want start.OutOfMemory = true
is_want (start.Unread node.OutOfMemory) = true
is_want (start.Unopened (owner.Open opening.OutOfMemory)) = true
is_want other = false

-- want of memory stays that, and else the store refused
abbrev pub node_told : HostStartFault → NodeFault
node_told fault.OutOfMemory = node.OutOfMemory
node_told (fault.Database epoch why) = if is_want why then node.OutOfMemory else node.StoreRefused
node_told other = node.StoreRefused

-- a call of the system failed so: want of memory stays that, and else its cause is told so
abbrev pub IsRefused : (FileFault → HostStartFault) → Error → HostStartFault → Type 0
IsRefused telling error told =
    (error_kind error ≡ kind.OutOfMemory → told ≡ fault.OutOfMemory) × (error_kind error ≢ kind.OutOfMemory → told ≡ telling (file_fault (error_kind error)))

-- of the state of an epoch, and of the folder
abbrev pub of_state : ℕ → FileFault → HostStartFault
of_state epoch why = fault.State epoch (cause.Unusable why)

abbrev pub IsOfFolder : Error → HostStartFault → Type 0
IsOfFolder error told = IsRefused fault.Folder error told

-- it is one of both
abbrev pub IsEither : (FileFault → HostStartFault) → HostStartFault → Type 0
IsEither telling told = (told ≡ fault.OutOfMemory) ⊎ ((why : FileFault) × (told ≡ telling why))

-- why there is no start over what a survey found
abbrev pub IsOfSurvey : FolderFault → HostStartFault → Type 0
IsOfSurvey (folder.NoStore epoch) told = told ≡ fault.Database epoch start.NoFile
IsOfSurvey (folder.OtherNode head) told = told ≡ fault.State head.epoch (cause.OtherNode head)
IsOfSurvey (folder.OtherMembers head) told = told ≡ fault.State head.epoch (cause.OtherMembers head)
IsOfSurvey (folder.OtherPlaces head) told = told ≡ fault.State head.epoch (cause.OtherPlaces head)
IsOfSurvey (folder.Damaged epoch) told = told ≡ fault.State epoch cause.Damaged
IsOfSurvey (folder.Unread epoch error) told = IsRefused (of_state epoch) error told
IsOfSurvey (folder.Refused error) told = IsOfFolder error told
IsOfSurvey folder.OutOfMemory told = told ≡ fault.OutOfMemory
