-- What one host does with the lines that it reads.
use Rattle.std.specs.Prelude.{◌≡◌, ◌≢◌, ◌⊎◌, ℕ, List}
use Rattle.std.specs.Io.KnownBytes.{Appends}
use Rattle.acceptor.specs.Content.{no_content}
use Rattle.ballots.specs.Members.{member_count}
use Rattle.hosts.specs.Views.{opening}
use Rattle.node_lines.specs.declared.writing.Unwritten.{Unwritten}
use Rattle.node_service.specs.Batched.{FailsToTell}
use Rattle.node_service.specs.declared.batches.BatchedEnd.{BatchedEnd}
use Rattle.node_service.specs.declared.batches.BatchedEnd.TheVariants as ends
use Rattle.node_service.specs.declared.lines.Lines.{Ghosts as Inputs}
use Rattle.node_service.specs.declared.outbox.Outbox.{Ghosts as Outputs}
use Rattle.host_service.specs.Serving.{ServesAs}
use Rattle.host_service.specs.Texts.{there_text}
use Rattle.upsched_ends.specs.declared.status.Status.{Status}
use Rattle.upsched_ends.specs.declared.status.Status.TheVariants.{Done, Faulted, NotUnderstood}
use Rattle.upsched_host.specs.Named.{BeginEmpty, Who}

-- the first line of a host
abbrev pub first_text : Who → List ℕ
first_text who = there_text who.0 who.1 who.2

-- a new host, whose nodes in memory never fail to open, served an input and an output so, and ended so
abbrev pub NewServesAs : {I O : Type 0} → Inputs I → Outputs O → Who → BatchedEnd → I → O → I → O → Type 0
NewServesAs input output who end i o i' o' = ServesAs input output BeginEmpty (λ fault. ⊥) (member_count who.1) who.0 who.2 (opening (λ e. no_content)) end i o i' o'

-- a new host told who it is and served, or it couldn't tell even that
abbrev pub RunsHost : {I O : Type 0} → Inputs I → Outputs O → Who → Status → I → O → I → O → Type 0
RunsHost {I} {O} input output who Done i o i' o' =
    (told : O) × Appends (output.bytes_held o) (output.bytes_held told) (first_text who) × NewServesAs input output who ends.Input i told i' o'
RunsHost {I} {O} input output who Faulted i o i' o' =
    ((why : Unwritten) × FailsToTell output (first_text who) why o o' × (i' ≡ i))
    ⊎ ((told : O) × (end : BatchedEnd) × Appends (output.bytes_held o) (output.bytes_held told) (first_text who) × (end ≢ ends.Input)
    × NewServesAs input output who end i told i' o')
RunsHost {I} {O} input output who NotUnderstood i o i' o' = ⊥
