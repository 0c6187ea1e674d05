-- What a node does with lines that have come together, and what its store holds then.
use Rattle.std.specs.Prelude.{◌≡◌, ◌⊎◌, ℕ, ◌-◌, ◌^◌, List, [], ◌∷◌, ◌++◌, length, All, IsTrue}
use Rattle.std.specs.Io.KnownBytes.{Appends, Consumes}
use Rattle.acceptor.specs.Content.{Content}
use Rattle.acceptor.specs.Found.{Holds}
use Rattle.acceptor.specs.declared.records.RecordsFault.{RecordsFault}
use Rattle.node.specs.View.{Standing}
use Rattle.node.specs.View.Standing.{Running, Stopped}
use Rattle.node_lines.specs.Input.{IsLine, ReadsLast}
use Rattle.node_lines.specs.declared.input.Next.TheVariants as next
use Rattle.node_lines.specs.declared.writing.Unwritten.{Unwritten}
use Rattle.node_service.specs.Batched.{FailsToTell, ReadsNoMore, lines_in, text_in}
use Rattle.node_service.specs.Texts.{reply_text}
use Rattle.node_service.specs.declared.batches.BatchedEnd.{BatchedEnd}
use Rattle.node_service.specs.declared.batches.BatchedEnd.TheVariants as ends
use Rattle.node_service.specs.declared.lines.Lines.{Ghosts as Inputs}
use Rattle.node_service.specs.declared.outbox.Outbox.{Ghosts as Outputs}
use Rattle.node_service.specs.declared.outgoing.Reply.{Reply}
use Rattle.upsched_node.specs.Serving.{IsDown, IsUp, RunsAs}
use Rattle.kept_node.specs.Noted.{IsLeftBy}
use Rattle.kept_node.specs.declared.store.WriteStore.{Ghosts as Stores}
use Rattle.batched_node.specs.Noted.{fault_of}

-- the content of a node, wherever it stands
abbrev pub content_of : Standing → Content
content_of (Running view) = view.content
content_of (Stopped c doubt) = c

-- lines with their replies: those that were seen, those whose writes are stored too, and those whose writes wait; where
-- the node stood behind the stored ones and behind all; and what was left of the input and held by the output then
pub record BatchedRun (I O : Type 0) : Type 0 where
  pub seen : List (List ℕ × Reply)
  pub unseen : List (List ℕ × Reply)
  pub waiting : List (List ℕ × Reply)
  pub stored : Standing
  pub last : Standing
  pub rest : I
  pub sent : O

-- node me of so many members, which stood at s, replied so to these lines, which were read, and the replies that were
-- seen were written
pub record RunsBatched {I O : Type 0} (input : Inputs I) (output : Outputs O) (members me : ℕ) (s : Standing) (i : I) (o : O) (run : BatchedRun I O) : Type 0 where
  pub whole : All (λ turn. IsLine turn.0) ((run.seen ++ run.unseen) ++ run.waiting)
  pub runs : RunsAs members me s (run.seen ++ run.unseen) run.stored
  pub goes_on : RunsAs members me run.stored run.waiting run.last
  pub read : Consumes (input.bytes_left i) (input.bytes_left run.rest) (lines_in ((run.seen ++ run.unseen) ++ run.waiting))
  pub written : Appends (output.bytes_held o) (output.bytes_held run.sent) (text_in reply_text run.seen)

-- all replies were seen, all writes are stored, and what is left of an honest store holds what the node holds
pub record IsAllStored {W I O : Type 0} (h : Stores W) (store : W) (run : BatchedRun I O) : Type 0 where
  pub none_unseen : run.unseen ≡ []
  pub none_waits : run.waiting ≡ []
  pub left : IsTrue (h.honest store) → Holds (h.may_find store) (content_of run.last)

-- the text of what is told of writes that weren't stored
abbrev pub fault_text : RecordsFault → List ℕ
fault_text why = reply_text (fault_of why)

-- writes that wait weren't stored for this fault, and an honest store has what is left by it
abbrev pub IsLeft : {W I O : Type 0} → Stores W → W → BatchedRun I O → RecordsFault → Type 0
IsLeft h store run why = IsTrue (h.honest store) → IsLeftBy why (h.may_find store) (content_of run.stored) (content_of run.last)

-- the output failed: at all that was written, or at a reply whose write is stored, or where a fault was told of writes
-- that weren't stored
abbrev pub IsUnwritten : {W I O : Type 0} → Stores W → Outputs O → W → BatchedRun I O → Unwritten → O → Type 0
IsUnwritten h output store run why o =
    ((IsTrue (h.honest store) → Holds (h.may_find store) (content_of run.stored))
    × (output.fails_to_send run.sent why o
    ⊎ ((turn : List ℕ × Reply) × (later : List (List ℕ × Reply)) × (run.unseen ≡ turn ∷ later) × output.fails run.sent (reply_text turn.1) why o)))
    ⊎ ((fault : RecordsFault) × IsLeft h store run fault × FailsToTell output (fault_text fault) why run.sent o)

-- how it ended: no whole line was left; or the node was down; or the input failed; or writes weren't stored, so that no
-- reply of those that wait was seen, but the fault; or the output failed; or these are all lines that a run may have
abbrev pub EndsBatchedAs : {W I O : Type 0} → Stores W → Inputs I → Outputs O → BatchedEnd → BatchedRun I O → I → O → W → Type 0
EndsBatchedAs h input output ends.Input run i o store =
    IsAllStored h store run × IsUp run.last × (o ≡ run.sent) × input.gives run.rest next.End i
    × ((left : List ℕ) × ReadsLast (input.bytes_left run.rest) (input.bytes_left i) left)
EndsBatchedAs h input output ends.Crashed run i o store = IsAllStored h store run × IsDown run.last × (o ≡ run.sent) × (i ≡ run.rest)
EndsBatchedAs h input output ends.Unreadable run i o store = IsAllStored h store run × IsUp run.last × (o ≡ run.sent) × input.fails run.rest i
EndsBatchedAs h input output ends.Uncommitted run i o store =
    ((why : RecordsFault) × IsLeft h store run why × Appends (output.bytes_held run.sent) (output.bytes_held o) (fault_text why)) × (run.unseen ≡ [])
    × ReadsNoMore input run.rest i
EndsBatchedAs h input output (ends.Unwritten why) run i o store = IsUnwritten h output store run why o × ReadsNoMore input run.rest i
EndsBatchedAs h input output ends.Spent run i o store = IsAllStored h store run × (length run.seen ≡ 2 ^ 64 - 1) × (o ≡ run.sent) × (i ≡ run.rest)

-- node me of so many members, which stood at s, served an input and an output so, and ended so beside this store
abbrev pub ServesBatchedAs : {W I O : Type 0} → Stores W → Inputs I → Outputs O → ℕ → ℕ → Standing → BatchedEnd → I → O → I → O → W → Type 0
ServesBatchedAs {W} {I} {O} h input output members me s end i o i' o' store =
    (run : BatchedRun I O) × RunsBatched input output members me s i o run × EndsBatchedAs h input output end run i' o' store
