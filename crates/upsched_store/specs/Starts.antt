-- What is told of a node that doesn't start over its file.
use Rattle.std.specs.Prelude.{ℕ, List, [], ◌∷◌, ◌++◌, codes, decimal}
use Rattle.acceptor_store.specs.declared.OpenFault.TheVariants as opening
use Rattle.acceptor_store.specs.declared.owned.OwnerFault.TheVariants as owner
use Rattle.ballots.specs.Members.{member_count}
use Rattle.log_ties.specs.declared.tie.Loss.TheVariants.{NoLog, CutAt, Damaged, NoDatabase}
use Rattle.log_ties.specs.declared.tie.Loss.TheVariants.{OtherTime, OtherFile, NoTables}
use Rattle.proposer.specs.declared.fault.NodeFault.TheVariants as node
use Rattle.stored_nodes.specs.declared.foreign.ForeignCause.{ForeignCause}
use Rattle.stored_nodes.specs.declared.start.FileFault.TheVariants.{Failed}
use Rattle.stored_nodes.specs.declared.start.StartFault.{StartFault}
use Rattle.stored_nodes.specs.declared.start.StartFault.TheVariants.{NoFile, Unusable, Lost, InUse, Unopened, NotFresh}
use Rattle.stored_nodes.specs.declared.start.StartFault.TheVariants.{Unread, OutOfMemory}
use Rattle.upsched_store.specs.Surveys.{foreign_text, owner_text, times_text, why_text}

-- the line of want of memory
abbrev pub memory_line : List ℕ
memory_line = codes "upsched: memory" ++ 10 ∷ []

-- a line that ends with the path of the file, and one that goes on behind it
abbrev pub ending : List ℕ → List ℕ → List ℕ
ending text path = text ++ (path ++ 10 ∷ [])

abbrev pub going_on : List ℕ → List ℕ → List ℕ → List ℕ
going_on text path rest = text ++ (path ++ (codes ": " ++ rest))

-- the line of a log that lost something
abbrev pub missing : List ℕ → List ℕ → List ℕ
missing path rest = codes "upsched: log missing: " ++ (path ++ (codes "-wal: " ++ rest))

-- the line of each fault, by the path of the file
abbrev pub start_line : List ℕ → StartFault → List ℕ
start_line path NoFile = ending (codes "upsched: no store: ") path
start_line path (Unopened owner.Blank) = ending (codes "upsched: no store: ") path
start_line path InUse = ending (codes "upsched: store in use: ") path
start_line path NotFresh = ending (codes "upsched: store not fresh: ") path
start_line path (Unopened owner.Unowned) = ending (codes "upsched: store of nobody: ") path
start_line path (Unopened (owner.OtherNode other)) = going_on (codes "upsched: store of another node: ") path (owner_text other)
start_line path (Unopened (owner.OtherMembers other)) =
    going_on (codes "upsched: store of other members: ") path (decimal other.node ++ (codes " of " ++ (decimal (member_count other.members) ++ 10 ∷ [])))
start_line path (Lost NoLog) = missing path (codes "isn't there" ++ 10 ∷ [])
start_line path (Lost (CutAt at)) = missing path (codes "is cut at byte " ++ (decimal at ++ 10 ∷ []))
start_line path (Lost Damaged) = missing path (codes "is damaged" ++ 10 ∷ [])
start_line path (Lost (OtherTime times)) = missing path (times_text path times)
start_line path (Lost OtherFile) = missing path (codes "has commits that don't fit " ++ (path ++ 10 ∷ []))
start_line path (Lost NoDatabase) = ending (codes "upsched: database missing: ") path
start_line path (Lost NoTables) = going_on (codes "upsched: database missing: ") path (codes "has no tables" ++ 10 ∷ [])
start_line path (Unusable why) = going_on (codes "upsched: store: ") path (why_text why ++ 10 ∷ [])
start_line path (Unopened (owner.Open opening.Refused)) = going_on (codes "upsched: store: ") path (codes "no database of a node" ++ 10 ∷ [])
start_line path (Unopened (owner.Open opening.Foreign)) = going_on (codes "upsched: store: ") path (codes "no database of a node" ++ 10 ∷ [])
start_line path (Unopened (owner.Open opening.OutOfMemory)) = memory_line
start_line path (Unread node.OutOfMemory) = memory_line
start_line path OutOfMemory = memory_line
start_line path (Unopened (owner.Open opening.Broken)) = going_on (codes "upsched: store: ") path (why_text Failed ++ 10 ∷ [])
start_line path (Unread other) = going_on (codes "upsched: store: ") path (why_text Failed ++ 10 ∷ [])

-- the line of files that no node wrote, where it is known what is wrong of them
abbrev pub foreign_line : List ℕ → ForeignCause → List ℕ
foreign_line path cause = going_on (codes "upsched: store: ") path (codes "no database of a node: " ++ (foreign_text cause ++ 10 ∷ []))
