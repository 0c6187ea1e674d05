-- What is told of a host that doesn't start over its folder, or whose node crashed.
use Rattle.std.specs.Prelude.{ℕ, List, [], ◌∷◌, ◌++◌, codes, decimal}
use Rattle.folder_hosts.specs.declared.fault.HostStartFault.{HostStartFault}
use Rattle.folder_hosts.specs.declared.fault.HostStartFault.TheVariants as fault
use Rattle.folder_hosts.specs.declared.fault.StateCause.{StateCause}
use Rattle.folder_hosts.specs.declared.fault.StateCause.TheVariants.{NotFresh, OtherNode, OtherMembers, OtherPlaces, Damaged}
use Rattle.folder_hosts.specs.declared.fault.StateCause.TheVariants.{Unusable}
use Rattle.stored_hosts.specs.Names.{name_text}
use Rattle.stored_hosts.specs.declared.names.FileKind.{FileKind}
use Rattle.stored_hosts.specs.declared.names.FileKind.TheVariants.{Database, State}
use Rattle.stored_nodes.specs.declared.start.FileFault.{FileFault}
use Rattle.upsched_store.specs.Crashes.{crash_line}
use Rattle.upsched_store.specs.Starts.{ending, going_on, memory_line, start_line}
use Rattle.upsched_store.specs.Surveys.{why_text}
use Rattle.upsched_store.specs.declared.crash.CrashCause.{CrashCause}

-- the path of a file of a folder
abbrev pub path_in : List ℕ → ℕ → FileKind → List ℕ
path_in folder epoch kind = folder ++ (47 ∷ name_text (record { epoch = epoch; kind = kind }))

-- the line of a file, or a folder, that can't be used
abbrev pub unusable_line : List ℕ → FileFault → List ℕ
unusable_line path why = going_on (codes "upsched: store: ") path (why_text why ++ 10 ∷ [])

-- a host's number, how many there are, and the line's end
abbrev pub of_many : ℕ → ℕ → List ℕ
of_many host count = decimal host ++ (codes " of " ++ (decimal count ++ 10 ∷ []))

-- the line of a state, by the path of its file
abbrev pub state_line : List ℕ → StateCause → List ℕ
state_line path NotFresh = ending (codes "upsched: store not fresh: ") path
state_line path (OtherNode head) = going_on (codes "upsched: store of another node: ") path (codes "node " ++ of_many head.id head.members)
state_line path (OtherMembers head) = going_on (codes "upsched: store of other members: ") path (of_many head.id head.members)
state_line path (OtherPlaces head) = going_on (codes "upsched: store of other places: ") path (decimal head.places ++ 10 ∷ [])
state_line path Damaged = going_on (codes "upsched: store: ") path (codes "damaged" ++ 10 ∷ [])
state_line path (Unusable why) = unusable_line path why

-- the line of each fault, by the path of the folder
abbrev pub host_start_line : List ℕ → HostStartFault → List ℕ
host_start_line folder fault.NoState = ending (codes "upsched: no store: ") folder
host_start_line folder fault.Places = codes "error: P is 1 to 999000" ++ 10 ∷ []
host_start_line folder (fault.Folder why) = unusable_line folder why
host_start_line folder (fault.Database epoch why) = start_line (path_in folder epoch Database) why
host_start_line folder (fault.State epoch cause) = state_line (path_in folder epoch State) cause
host_start_line folder fault.OutOfMemory = memory_line

-- that of a node that crashed, with the cause
abbrev pub fall_line : List ℕ → ℕ → CrashCause → List ℕ
fall_line folder epoch cause = crash_line (path_in folder epoch Database) cause
