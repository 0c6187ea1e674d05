-- Which state of a folder counts, and what a start finds there.
use Rattle.std.specs.Prelude.{◌≡◌, ◌≢◌, ◌↔◌, ◌⊎◌, ◌<◌, ◌≤◌, ◌+◌, ◌-◌, ◌^◌, ℕ, nat_lt, if◌then◌else◌, IsTrue, List, [], Option, None}
use Rattle.std.specs.Prelude.{Some, Result, Ok, Err, Contains, MatchOption, ⊤}
use Rattle.flow_state.specs.Rows.{Rows}
use Rattle.host_states.specs.States.{IsState}
use Rattle.host_states.specs.declared.head.StateHead.{StateHead}
use Rattle.stored_hosts.specs.Committing.{file_of}
use Rattle.stored_hosts.specs.declared.fault.FolderFault.{FolderFault}
use Rattle.stored_hosts.specs.declared.fault.FolderFault.TheVariants.{NoStore, OtherNode, OtherMembers, OtherPlaces}
use Rattle.stored_hosts.specs.declared.fault.FolderFault.TheVariants.{Damaged, Unread, Refused, OutOfMemory}
use Rattle.stored_hosts.specs.declared.finding.Found.{Found}
use Rattle.stored_hosts.specs.declared.finding.Found.TheVariants.{Nothing, Whole}
use Rattle.stored_hosts.specs.declared.finding.StateFile.{StateFile}
use Rattle.stored_hosts.specs.declared.finding.WhichHost.{WhichHost}
use Rattle.stored_hosts.specs.declared.names.FileKind.TheVariants.{Database}
use Rattle.stored_hosts.specs.declared.names.HostFile.{HostFile}

-- a file is this state, whole, and its name says the epoch of it
pub record IsWhole (file : StateFile) (head : StateHead) (rows : Rows) : Type 0 where
  pub state : IsState file.bytes.items head rows
  pub epoch : head.epoch ≡ file.epoch

-- this state counts: it is whole, and no whole one is of a greater epoch
pub record Counts (files : List StateFile) (head : StateHead) (rows : Rows) : Type 0 where
  pub whole : (file : StateFile) × Contains files file × IsWhole file head rows
  pub greatest : (file : StateFile) (other : StateHead) (rows : Rows) → Contains files file → IsWhole file other rows → other.epoch ≤ head.epoch

-- or none does
abbrev pub NoneCounts : List StateFile → Type 0
NoneCounts files = (file : StateFile) (head : StateHead) (rows : Rows) → Contains files file → ¬ IsWhole file head rows

abbrev pub IsBest : List StateFile → Option (StateHead × Rows) → Type 0
IsBest files best = MatchOption best (NoneCounts files) (λ state. Counts files state.0 state.1)

-- of two states the one of the greater epoch: the second, where both are of one
abbrev pub later : Option (StateHead × Rows) → Option (StateHead × Rows) → Option (StateHead × Rows)
later one None = one
later None (Some other) = Some other
later (Some one) (Some other) = if nat_lt other.0.epoch one.0.epoch then Some one else Some other

-- a state is of this host among these members, of epochs with these places
pub record IsOf (which : WhichHost) (head : StateHead) : Type 0 where
  pub id : head.id ≡ which.id
  pub members : head.members ≡ which.members
  pub places : head.places ≡ which.places

-- or the first of these that differs is this one, and the head is told
abbrev pub IsOther : WhichHost → StateHead → FolderFault → Type 0
IsOther which head (OtherNode told) = (told ≡ head) × (head.id ≢ which.id)
IsOther which head (OtherMembers told) = (told ≡ head) × (head.id ≡ which.id) × (head.members ≢ which.members)
IsOther which head (OtherPlaces told) = (told ≡ head) × (head.id ≡ which.id) × (head.members ≡ which.members) × (head.places ≢ which.places)
IsOther which head other = ⊥

-- the databases of an epoch and of the one behind it are there
abbrev pub HasBoth : List HostFile → ℕ → Type 0
HasBoth files epoch = Contains files (file_of epoch Database) × Contains files (file_of (epoch + 1) Database)

-- the database of this epoch is the first of both that isn't there
abbrev pub IsFirstLacking : List HostFile → (epoch lacking : ℕ) → Type 0
IsFirstLacking files epoch lacking =
    ((lacking ≡ epoch) × ¬ Contains files (file_of epoch Database))
    ⊎ (Contains files (file_of epoch Database) × (¬ Contains files (file_of (epoch + 1) Database)) × (epoch + 1 < 2 ^ 64 → lacking ≡ epoch + 1))

-- the greatest epoch of these files, by their names
pub record IsGreatest (files : List StateFile) (epoch : ℕ) : Type 0 where
  pub is : (file : StateFile) × Contains files file × (file.epoch ≡ epoch)
  pub greatest : (file : StateFile) → Contains files file → file.epoch ≤ epoch

abbrev pub OnlyWants : FolderFault → Type 0
OnlyWants fault = fault ≡ OutOfMemory

-- what a start finds where the folder has these files, and these bytes of states
abbrev pub Finds : WhichHost → List HostFile → List StateFile → Result Found FolderFault → Type 0
Finds which files states (Ok Nothing) = states ≡ []
Finds which files states (Ok (Whole start)) =
    Counts states start.head start.machine × IsOf which start.head × HasBoth files start.head.epoch
    × (IsTrue start.has_before ↔ Contains files (file_of (start.head.epoch - 1) Database))
Finds which files states (Err (NoStore lacking)) =
    (head : StateHead) × (rows : Rows) × Counts states head rows × IsOf which head × IsFirstLacking files head.epoch lacking
Finds which files states (Err (Damaged last)) = IsGreatest states last × NoneCounts states
Finds which files states (Err OutOfMemory) = ⊤
Finds which files states (Err (Unread epoch why)) = ⊥
Finds which files states (Err (Refused why)) = ⊥
Finds which files states (Err other) = (head : StateHead) × (rows : Rows) × Counts states head rows × IsOther which head other
