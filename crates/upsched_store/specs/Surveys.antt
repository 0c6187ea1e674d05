-- What is printed of the files of nodes.
use Rattle.std.specs.List.{list_all}
use Rattle.std.specs.Prelude.{ℕ, Bool, true, false, List, [], ◌∷◌, ◌++◌, codes, decimal, flat_map, if◌then◌else◌}
use Rattle.std.specs.Prelude.{Option, Some, None}
use Rattle.acceptor_store_parts.specs.declared.owner.Owner.{Owner}
use Rattle.acceptor_store_parts.specs.Wrong.{name_of}
use Rattle.acceptor_store_parts.specs.declared.wrong.WrongPart.TheVariants.{Missing, Changed, Further}
use Rattle.ballots.specs.Members.{member_count}
use Rattle.log_ties.specs.declared.tie.Loss.TheVariants.{NoLog, CutAt, Damaged, NoDatabase}
use Rattle.log_ties.specs.declared.tie.Loss.TheVariants.{OtherTime, OtherFile, NoTables}
use Rattle.log_ties.specs.declared.tie.Times.{Times}
use Rattle.stored_nodes.specs.declared.foreign.ForeignCause.{ForeignCause}
use Rattle.stored_nodes.specs.declared.foreign.ForeignCause.TheVariants.{NoDatabase as NoneThere, Part, Rows}
use Rattle.stored_nodes.specs.declared.start.FileFault.{FileFault}
use Rattle.stored_nodes.specs.declared.start.FileFault.TheVariants.{NoFolder, NotRegular, Denied, NoRoom}
use Rattle.stored_nodes.specs.declared.start.FileFault.TheVariants.{Journal, Failed}
use Rattle.stored_nodes.specs.declared.states.FilesState.{FilesState}
use Rattle.stored_nodes.specs.declared.states.FilesState.TheVariants.{Fresh, Begun, Used, Unowned, Foreign, Locked}
use Rattle.stored_nodes.specs.declared.states.FilesState.TheVariants.{OtherNode, Lost, Unusable}
use Rattle.upsched_store.specs.declared.found.Found.{Found}

-- why a file can't be used
abbrev pub why_text : FileFault → List ℕ
why_text NoFolder = codes "no folder"
why_text NotRegular = codes "no regular file"
why_text Denied = codes "permission denied"
why_text NoRoom = codes "no room"
why_text Journal = codes "rollback journal"
why_text Failed = codes "a read or write failed"

-- the same of files that are only looked at
abbrev pub look_text : FileFault → List ℕ
look_text Failed = codes "cannot read"
look_text why = why_text why

-- whose files they are, and the line's end
abbrev pub owner_text : Owner → List ℕ
owner_text owner = codes "node " ++ (decimal owner.node ++ (codes " of " ++ (decimal (member_count owner.members) ++ 10 ∷ [])))

-- what a log's commits count, and what the database file of this path counts, and the line's end
abbrev pub times_text : List ℕ → Times → List ℕ
times_text path times =
    codes "has commits " ++ (decimal times.first ++ (codes " to " ++ (decimal times.last ++ (codes ", " ++ (path
    ++ (codes " has " ++ (decimal times.file ++ 10 ∷ [])))))))

-- what the files of this path are and why, and the line's end
abbrev pub state_text : List ℕ → FilesState → List ℕ
state_text path Fresh = codes "fresh" ++ 10 ∷ []
state_text path Begun = codes "begun" ++ 10 ∷ []
state_text path Used = codes "used" ++ 10 ∷ []
state_text path Unowned = codes "used, of nobody" ++ 10 ∷ []
state_text path Foreign = codes "foreign" ++ 10 ∷ []
state_text path Locked = codes "locked: another process has it open" ++ 10 ∷ []
state_text path (OtherNode owner) = codes "of another node: " ++ owner_text owner
state_text path (Lost NoLog) = codes "log missing: " ++ (path ++ (codes "-wal isn't there" ++ 10 ∷ []))
state_text path (Lost (CutAt at)) = codes "log missing: " ++ (path ++ (codes "-wal is cut at byte " ++ (decimal at ++ 10 ∷ [])))
state_text path (Lost Damaged) = codes "log missing: " ++ (path ++ (codes "-wal is damaged" ++ 10 ∷ []))
state_text path (Lost (OtherTime times)) = codes "log missing: " ++ (path ++ (codes "-wal " ++ times_text path times))
state_text path (Lost OtherFile) = codes "log missing: " ++ (path ++ (codes "-wal has commits that don't fit " ++ (path ++ 10 ∷ [])))
state_text path (Lost NoDatabase) = codes "database missing: " ++ (path ++ (codes " isn't there" ++ 10 ∷ []))
state_text path (Lost NoTables) = codes "database missing: " ++ (path ++ (codes " has no tables" ++ 10 ∷ []))
state_text path (Unusable why) = codes "unusable: " ++ (look_text why ++ 10 ∷ [])

-- what of a database no node makes or writes
abbrev pub foreign_text : ForeignCause → List ℕ
foreign_text NoneThere = codes "no database, or a damaged one"
foreign_text (Part (Missing which)) = codes "table " ++ (name_of which ++ codes " isn't there")
foreign_text (Part (Changed which)) = codes "table " ++ (name_of which ++ codes " isn't a node's")
foreign_text (Part Further) = codes "more than a node's tables"
foreign_text (Rows (Some which)) = codes "rows of table " ++ (name_of which ++ codes " aren't a node's")
foreign_text (Rows None) = codes "rows of table ballot or fact aren't a node's"

-- the same, where foreign files were found to be so for this cause
abbrev pub found_text : List ℕ → FilesState → Option ForeignCause → List ℕ
found_text path Foreign (Some cause) = codes "foreign: " ++ (foreign_text cause ++ 10 ∷ [])
found_text path state cause = state_text path state

-- the path of a node's database in a folder
abbrev pub path_in : List ℕ → ℕ → List ℕ
path_in folder number = folder ++ (codes "/node-" ++ (decimal number ++ codes ".db"))

-- the line of a node's files in a folder, and the lines of each node's
abbrev pub state_line : List ℕ → Found → List ℕ
state_line folder found = path_in folder found.number ++ (codes ": " ++ found_text (path_in folder found.number) found.state found.cause)

abbrev pub state_lines : List ℕ → List Found → List ℕ
state_lines folder [] = folder ++ (codes ": no file of a node" ++ 10 ∷ [])
state_lines folder (found ∷ more) = flat_map (state_line folder) (found ∷ more)

-- a script's nodes begin over fresh files alone, and the line of others is told where they don't
abbrev pub is_fresh : FilesState → Bool
is_fresh Fresh = true
is_fresh other = false

abbrev pub taken_line : List ℕ → Found → List ℕ
taken_line folder found = if is_fresh found.state then [] else state_line folder found

-- a node can begin over them or go on, or a process has them open
abbrev pub serves : FilesState → Bool
serves Fresh = true
serves Begun = true
serves Used = true
serves Locked = true
serves other = false

-- so over each, of which there is one
abbrev pub each_serves : List Found → Bool
each_serves states = list_all (λ (found : Found). serves found.state) states

abbrev pub all_serve : List Found → Bool
all_serve [] = false
all_serve (found ∷ more) = each_serves (found ∷ more)
