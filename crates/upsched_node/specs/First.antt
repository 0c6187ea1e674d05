-- A line that is told before any is read.
use Rattle.std.specs.Prelude.{◌≡◌, ◌⊎◌, ℕ, List}
use Rattle.std.specs.Io.KnownBytes.{Appends}
use Rattle.node_lines.specs.declared.writing.Unwritten.{Unwritten}
use Rattle.node_service.specs.Batched.{FailsToTell}
use Rattle.node_service.specs.declared.outbox.Outbox.{Ghosts as Outputs}

-- the first line was told, and then this; or it couldn't be, for a cause of which this holds
abbrev pub TellsFirst : {I P : Type 0} → Outputs P → List ℕ → (Unwritten → Type 0) → I → P → I → P → (P → Type 0) → Type 0
TellsFirst {I} {P} output text Fails i o i' o' Then =
    ((sent : P) × Appends (output.bytes_held o) (output.bytes_held sent) text × Then sent)
    ⊎ ((why : Unwritten) × FailsToTell output text why o o' × (i' ≡ i) × Fails why)

-- nothing was read or written
abbrev pub Untouched : {I P : Type 0} → I → P → I → P → Type 0
Untouched i o i' o' = (i' ≡ i) × (o' ≡ o)
