-- A node in memory beside a store, and the writes that wait to be stored.
use Rattle.std.specs.Prelude.{◌≡◌, ℕ, ◌<◌, List, None, Result}
use Rattle.acceptor.specs.Content.{Content}
use Rattle.acceptor.specs.declared.records.RecordsFault.{RecordsFault}
use Rattle.kept_node.specs.Noted.{IsNoted}
use Rattle.kept_node.specs.declared.noted.NotedWrites.{NotedWrites}
use Rattle.kept_node.specs.declared.store.WriteStore.{Ghosts as Stores}
use Rattle.node.specs.Calls.{Who}
use Rattle.node.specs.declared.node.Node.{Ghosts as Nodes}
use Rattle.node_lines.specs.declared.fault.LineFault.{LineFault}
use Rattle.node_lines.specs.declared.request.Request.{Request}
use Rattle.node_service.specs.Came.{IsAskedBy, IsRefusedBy}
use Rattle.node_service.specs.Seated.{DoesAsAsked}
use Rattle.node_service.specs.declared.outgoing.Reply.{Reply}
use Rattle.node_service.specs.declared.outgoing.Reply.TheVariants as reply
use Rattle.proposer.specs.Faults.{told}
use Rattle.seats.specs.declared.acted.Acted.TheVariants as acted
use Rattle.seats.specs.declared.seat.Seat.{Seat}

-- the writes of one among one or more members wait for an honest store, and lead to what it has in memory
pub record IsAllNoted {W : Type 0} (h : Stores W) (noted : NotedWrites W) (who : Who) (c : Content) : Type 0 where
  pub some : 0 < who.members
  pub goes_on : noted.ended ≡ None
  pub waits : IsNoted h noted.store who.id noted.waiting.items c

-- the reply to a line that came, or was let go: what it asks is done, and what is refused changes nothing
abbrev pub RepliesBy : {N : Type 0} {g : Nodes N} → Seat N g → Result (List ℕ) LineFault → Reply → Seat N g → Type 0
RepliesBy old came (reply.Acted given) new = (asked : Request) × IsAskedBy came asked × DoesAsAsked old asked given new
RepliesBy old came (reply.Refused why) new = IsRefusedBy came why × (new ≡ old)
RepliesBy old came other new = ⊥

-- what is told of writes that weren't stored: the node's fault
abbrev pub fault_of : RecordsFault → Reply
fault_of why = reply.Acted (acted.Fault (told why))
