-- What opening files tells of them, and what stays of files that are only read.
use Rattle.std.specs.Prelude.{◌≡◌, ◌⊎◌, ◌==◌, if◌then◌else◌, ℕ, Bool, true, false, IsTrue, List, Option, Some, None, Result, Ok, Err}
use Rattle.acceptor_store.specs.declared.OpenFault.{OpenFault}
use Rattle.acceptor_store.specs.declared.OpenFault.TheVariants as opening
use Rattle.acceptor_store.specs.declared.owned.OwnerFault.{OwnerFault}
use Rattle.acceptor_store.specs.declared.owned.OwnerFault.TheVariants as owner
use Rattle.acceptor_store_parts.specs.declared.owner.Owner.{Owner}
use Rattle.log_ties.specs.declared.tie.Loss.{Loss}
use Rattle.proposer.specs.declared.fault.NodeFault.{NodeFault}
use Rattle.proposer.specs.declared.fault.NodeFault.TheVariants as node
use Rattle.sqlite_disk.specs.declared.Disk as disk
use Rattle.sqlite_disk.specs.declared.Files.{Files}
use Rattle.stored_nodes.specs.declared.start.FileFault.{FileFault}
use Rattle.stored_nodes.specs.declared.start.FileFault.TheVariants.{Failed}
use Rattle.stored_nodes.specs.declared.start.StartFault.{StartFault}
use Rattle.stored_nodes.specs.declared.start.StartFault.TheVariants as start
use Rattle.stored_nodes.specs.declared.states.FilesState.{FilesState}
use Rattle.stored_nodes.specs.declared.states.FilesState.TheVariants.{Fresh, Begun, Used, Unowned, Foreign, Locked}
use Rattle.stored_nodes.specs.declared.states.FilesState.TheVariants.{OtherNode, Lost, Unusable}
use Rattle.stored_nodes.specs.declared.states.Told.{Told}
use Rattle.stored_nodes.specs.declared.states.Told.TheVariants.{State, NoOwner, Memory}

-- by what an open says of the tables
abbrev pub told_open : OpenFault → Told
told_open opening.Refused = State Foreign
told_open opening.Foreign = State Foreign
told_open opening.Broken = State (Unusable Failed)
told_open opening.OutOfMemory = Memory

-- by what an open for an owner says; files without tables are as new
abbrev pub told_owner : OwnerFault → Told
told_owner (owner.Open fault) = told_open fault
told_owner owner.Blank = State Fresh
told_owner owner.Unowned = NoOwner
told_owner (owner.OtherNode other) = State (OtherNode other)
told_owner (owner.OtherMembers other) = State (OtherNode other)

abbrev pub told_unread : NodeFault → Told
told_unread node.OutOfMemory = Memory
told_unread other = State (Unusable Failed)

abbrev pub told_start : StartFault → Told
told_start (start.Unopened fault) = told_owner fault
told_start (start.Unread fault) = told_unread fault
told_start start.OutOfMemory = Memory
told_start start.InUse = State Locked
told_start (start.Lost loss) = State (Lost loss)
told_start (start.Unusable why) = State (Unusable why)
told_start other = State (Unusable Failed)

-- by the open for an owner: whether the records hold nothing, or why there are none
abbrev pub told_owned : Result Bool StartFault → Told
told_owned (Ok true) = State Begun
told_owned (Ok false) = State Used
told_owned (Err fault) = told_start fault

-- by the open for nobody, of tables that have no owner
abbrev pub told_unowned : Result Bool StartFault → Told
told_unowned (Ok true) = State Fresh
told_unowned (Ok false) = State Unowned
told_unowned (Err fault) = told_start fault

-- by why a copy in memory wasn't opened, and whether its tables are those of a version, or none: such aren't refused for
-- what they are, so a call of the copy failed, which it does for want of memory alone
abbrev pub told_refused : OwnerFault → Bool → Told
told_refused (owner.Open opening.Refused) true = Memory
told_refused (owner.Open opening.Broken) known = Memory
told_refused fault known = told_owner fault

-- the state that was told, if one was: files that neither an owner nor nobody wrote are foreign
abbrev pub state_told : Told → Option FilesState
state_told (State state) = Some state
state_told NoOwner = Some Foreign
state_told Memory = None

-- a state that was told is such
abbrev pub IsTold : (FilesState → Type 0) → Told → Type 0
IsTold P (State state) = P state
IsTold P NoOwner = P Foreign
IsTold P Memory = Unit {0}

-- the state is that the files lost this, or a read of them failed
abbrev pub IsToldLost : Loss → FilesState → Type 0
IsToldLost loss state = (state ≡ Lost loss) ⊎ ((why : FileFault) × (state ≡ Unusable why))

-- a read of a file gives what it gave, a crash leaves nothing that it couldn't leave before, and a disk that gave no
-- wrong answer had given none
abbrev pub StaysFile : {D : Type 0} → disk.Ghosts D → D → D → Type 0
StaysFile g old new =
    (g.seen new ≡ g.seen old) × ((bytes : List ℕ) → g.may_leave new bytes → g.may_leave old bytes) × (IsTrue (g.is_clean new) → IsTrue (g.is_clean old))

-- so of a log and of a database
abbrev pub StayFiles : {D : Type 0} → disk.Ghosts D → Files D → Files D → Type 0
StayFiles g old new = StaysFile g old.log new.log × StaysFile g old.db new.db

-- why files of another owner aren't a node's: that is another node, or this one as one of other members
abbrev pub other_owner : ℕ → Owner → OwnerFault
other_owner id other = if other.node == id then owner.OtherMembers other else owner.OtherNode other

-- why a new node doesn't begin over files of this state: they hold something, or aren't its own; none where it does
abbrev pub refusal_of : ℕ → FilesState → Option StartFault
refusal_of id Fresh = None
refusal_of id Begun = None
refusal_of id Used = Some start.NotFresh
refusal_of id Unowned = Some start.NotFresh
refusal_of id Foreign = Some (start.Unopened (owner.Open opening.Foreign))
refusal_of id Locked = Some start.InUse
refusal_of id (OtherNode other) = Some (start.Unopened (other_owner id other))
refusal_of id (Lost loss) = Some (start.Lost loss)
refusal_of id (Unusable why) = Some (start.Unusable why)
