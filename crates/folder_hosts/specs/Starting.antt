-- How a host over a folder starts.
use Rattle.std.specs.Prelude.{◌≡◌, ◌⊎◌, ℕ, Bool, List, [], Contains, Option, Some, None, Ok, Err, ⊤}
use Rattle.std.specs.declared.io.Error.{Error}
use Rattle.folder_hosts.specs.Databases.{OpensDatabase}
use Rattle.folder_hosts.specs.Faults.{IsOfFolder, IsOfSurvey}
use Rattle.folder_hosts.specs.declared.fault.HostStartFault.{HostStartFault}
use Rattle.folder_hosts.specs.declared.fault.HostStartFault.TheVariants as fault
use Rattle.folder_hosts.specs.declared.fault.StateCause.TheVariants as cause
use Rattle.host_states.specs.States.{state_bytes}
use Rattle.host_states.specs.declared.head.StateHead.{StateHead}
use Rattle.acceptor.specs.Content.{Content}
use Rattle.epochs.specs.Epochs.{AreFull}
use Rattle.hosts.specs.Hosts.{IsHonest, member_of, number_of}
use Rattle.hosts.specs.Starting.{CanStart, StandsBehind, StartsBehind}
use Rattle.hosts.specs.declared.host.Host.{Host}
use Rattle.hosts.specs.declared.opens.Opens.{Ghosts}
use Rattle.node.specs.declared.node.Node.{Ghosts as Nodes}
use Rattle.hosts.specs.declared.starting.Start.{Start}
use Rattle.stored_hosts.specs.Acts.{Act, AreDone}
use Rattle.stored_hosts.specs.Committing.{commit_of, file_of}
use Rattle.stored_hosts.specs.declared.fault.FolderFault.{FolderFault}
use Rattle.stored_hosts.specs.declared.finding.Found.TheVariants.{Nothing, Whole}
use Rattle.stored_hosts.specs.Surveying.{Surveys}
use Rattle.stored_hosts.specs.declared.finding.Start.{Start as FoundStart}
use Rattle.stored_hosts.specs.declared.finding.WhichHost.{WhichHost}
use Rattle.stored_hosts.specs.declared.names.FileKind.{FileKind}
use Rattle.stored_hosts.specs.declared.names.FileKind.TheVariants.{Database, Log, State, Part}
use Rattle.stored_hosts.specs.declared.names.HostFile.{HostFile}
use Rattle.stored_nodes.specs.declared.start.StartFault.{StartFault}

-- there is no state among these files
abbrev pub HasNoState : List HostFile → Type 0
HasNoState files = (e : ℕ) → ¬ Contains files (file_of e State)

-- a file that is of records
abbrev pub IsOfRecords : FileKind → Type 0
IsOfRecords Database = ⊤
IsOfRecords Log = ⊤
IsOfRecords State = ⊥
IsOfRecords Part = ⊥

-- the fault is that a state is there
abbrev pub HasState : List HostFile → HostStartFault → Type 0
HasState files (fault.State epoch cause.NotFresh) = Contains files (file_of epoch State)
HasState files other = ⊥

-- a look at the database of each file of records tells that a new node begins over it
abbrev pub AreUnused : {D : Type 0} → (D → ℕ → Option StartFault → Type 0) → D → List HostFile → Type 0
AreUnused tells d files = (file : HostFile) → Contains files file → IsOfRecords file.kind → tells d file.epoch None

-- or the fault is what is told of this one
abbrev pub IsUsed : {D : Type 0} → (D → ℕ → Option StartFault → Type 0) → D → HostFile → HostStartFault → Type 0
IsUsed tells d file (fault.Database epoch why) = (epoch ≡ file.epoch) × IsOfRecords file.kind × tells d file.epoch (Some why)
IsUsed tells d file other = ⊥

-- or of one of these
abbrev pub HasUsed : {D : Type 0} → (D → ℕ → Option StartFault → Type 0) → D → List HostFile → HostStartFault → Type 0
HasUsed tells d files told = (file : HostFile) × Contains files file × IsUsed tells d file told

-- the first state couldn't be put there, or memory ran out
abbrev pub IsOfFirst : HostStartFault → Type 0
IsOfFirst (fault.State epoch (cause.Unusable why)) = epoch ≡ 1
IsOfFirst fault.OutOfMemory = ⊤
IsOfFirst other = ⊥

-- what the state at the start of the first epoch tells beside tables, of this member of so many
abbrev pub first_head : (places : ℕ) → ℕ × ℕ → StateHead
first_head places member = record { epoch = 1; places = places; before = 0; id = member.0; members = member.1 }

-- A folder was made a new host's: it had no state, and no database in it held anything. Then the databases of the
-- first two epochs were opened, and only then the state of the first epoch was put there, which has no tables.
pub record BeginsFolder {F D E : Type 0} (lists : F → List HostFile → Type 0) (does : F → Act → Option E → F → Type 0) (opens : D → ℕ → Bool → Option StartFault → D → Type 0)
    (tells : D → ℕ → Option StartFault → Type 0) (places : ℕ) (member : ℕ × ℕ) (f : F) (d : D) (g : F) (e : D) : Type 0 where
  pub files : List HostFile
  pub listed : lists f files
  pub fresh : HasNoState files
  pub unused : AreUnused tells d files
  pub mid : D
  pub first : OpensDatabase opens 0 1 d None mid
  pub second : OpensDatabase opens 0 2 mid None e
  pub state : AreDone does f (commit_of 1 (state_bytes (first_head places member) [])) g

-- Why a folder wasn't made a new host's: it couldn't be looked into; it has a state; a database in it holds something,
-- or one of the first two couldn't be opened; the first state couldn't be put there; or memory ran out.
abbrev pub IsNoBeginning : {F D : Type 0} → (F → List HostFile → Type 0) → (F → Error → Type 0) → (D → ℕ → Option StartFault → Type 0) → F → D → HostStartFault → Type 0
IsNoBeginning lists unread tells f d (fault.Folder why) = (error : Error) × unread f error × IsOfFolder error (fault.Folder why)
IsNoBeginning lists unread tells f d (fault.State epoch cause.NotFresh) = (files : List HostFile) × lists f files × Contains files (file_of epoch State)
IsNoBeginning lists unread tells f d (fault.State epoch (cause.Unusable why)) = epoch ≡ 1
IsNoBeginning lists unread tells f d (fault.Database epoch why) =
    ((files : List HostFile) × lists f files × HasUsed tells d files (fault.Database epoch why)) ⊎ ((epoch ≡ 1) ⊎ (epoch ≡ 2))
IsNoBeginning lists unread tells f d fault.OutOfMemory = ⊤
IsNoBeginning lists unread tells f d other = ⊥

-- what a start finds in a folder, as a host takes it
abbrev pub start_of : FoundStart → Start
start_of start = record { head = start.head; machine = start.machine; has_before = start.has_before }

-- Why there is no host over a folder: it has no state; or what a survey found says so; or that found a start, and its
-- state is of numbers that are no host's, a database couldn't be opened, or memory ran out.
abbrev pub IsNoResuming : {F : Type 0} → (F → List HostFile → Type 0) → (F → HostFile → List ℕ → Type 0) → (F → Error → Type 0) → WhichHost → F → HostStartFault → Type 0
IsNoResuming lists holds unread which f told =
    ((told ≡ fault.NoState) × Surveys holds unread lists which f (Ok Nothing))
    ⊎ ((why : FolderFault) × IsOfSurvey why told × Surveys holds unread lists which f (Err why))
    ⊎ ((start : FoundStart) × Surveys holds unread lists which f (Ok (Whole start)))

-- which host has these databases
abbrev pub which_of : ℕ × ℕ → (places : ℕ) → WhichHost
which_of member places = record { id = member.0; members = member.1; places = places }

-- a host starts at what a survey found: at the epoch of the state, behind each list of full epochs of which that is
pub record Resumes {O N : Type 0} {g : Ghosts O N} {h : Nodes N} (begins : ℕ → Content → Type 0) (places : ℕ) (start : FoundStart) (host : Host O N g h) : Type 0 where
  pub can : CanStart (member_of host).1 places start.head
  pub number : number_of host ≡ start.head.epoch
  pub stands : IsHonest host → (passed : List (List (List ℕ))) → AreFull places passed → StartsBehind (start_of start) places passed → StandsBehind begins places start.has_before passed host

-- why there is no new host: an epoch can't have so many places; or its folder wasn't made one's; or it was, and its
-- nodes weren't opened then
abbrev pub IsNoNew : Type 0 → (HostStartFault → Type 0) → Type 0 → HostStartFault → Type 0
IsNoNew Can Fails Begun told = ((told ≡ fault.Places) × ¬ Can) ⊎ (Fails told ⊎ Begun)

-- why none waits to join: the folder couldn't be looked into, or has a state
abbrev pub IsNoWaiting : {F : Type 0} → (F → List HostFile → Type 0) → (F → Error → Type 0) → F → HostStartFault → Type 0
IsNoWaiting lists unread f told =
    ((files : List HostFile) × lists f files × HasState files told) ⊎ ((why : Error) × unread f why × IsOfFolder why told)
