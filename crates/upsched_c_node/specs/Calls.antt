-- What calls on a node that a handle holds do.
use Rattle.std.specs.Prelude.{◌≡◌, ℕ, ◌<◌, ◌≤◌, nat_lt, if◌then◌else◌, List, length, slice_get, Option, Some, None}
use Rattle.std.specs.Prelude.{MatchOption, Result, Ok, Err}
use Rattle.ballots.specs.Rows.{at}
use Rattle.ballots.specs.declared.letters.Letter.{Letter}
use Rattle.command_log.specs.Values.{outputs_of_values}
use Rattle.map_release.specs.Released.{released}
use Rattle.map_release.specs.declared.numbered.Numbered.{Numbered}
use Rattle.node.specs.Calls.{Cause}
use Rattle.node.specs.Calls.Cause.{Receive, Tell}
use Rattle.node.specs.Releases.{released_all}
use Rattle.node.specs.Step.{Outcome}
use Rattle.node.specs.View.{gapless}
use Rattle.proposer.specs.declared.fault.NodeFault.{NodeFault as Fault}
use Rattle.upsched_c_parts.specs.declared.output.OutputFields.{OutputFields}
use Rattle.upsched_c_parts.specs.Fronts.{over_front}
use Rattle.upsched_c_parts.specs.Outputs.{FitsRoom, body_after, output_fields}
use Rattle.upsched_c_node.specs.declared.handle.Handle.{Handle}
use Rattle.upsched_c_node.specs.declared.handle.Held.{Held}
use Rattle.upsched_c_node.specs.declared.status.Status.{Status}
use Rattle.upsched_c_node.specs.declared.status.Status.TheVariants as statuses
use Rattle.node_writes.specs.declared.write_bytes.WriteBytes.{WriteBytes}
use Rattle.upsched_c_node.specs.Handles.{Asks}
use Rattle.upsched_c_node.specs.Letters.{Reads, TellsBytes}
use Rattle.upsched_c_node.specs.Rooms.{Told, told}
use Rattle.upsched_c_node.specs.States.{HasReleasedAll, MayLack, Takes}
use Rattle.told_writes.specs.Writes.{HandsOut}

-- where a call tells its write, and how many letters it sent
pub record Sent : Type 0 where
  pub write : WriteBytes
  pub count : ℕ

abbrev pub sent : WriteBytes → ℕ → Sent
sent write count = record { write = write; count = count }

-- the status of a node's fault
abbrev pub status_of : Fault → Status
status_of Fault.OutOfMemory = statuses.OutOfMemory
status_of other = statuses.Node other

-- a call on a node: its letters are kept, its one write is handed out, and how many letters there are is told; or it is
-- declined or lacks memory, and nothing changed
abbrev pub Sends : Cause → Held → Sent → Held → Sent → Status → Type 0
Sends cause k old after new statuses.Done =
    (o : Outcome) × Takes k.node cause (Ok o)
    × (after.node ≡ record k.node { view = o.view }) × (after.letters.items ≡ o.letters) × (after.outputs ≡ k.outputs)
    × HandsOut k.node.id k.node.view.content o.write new.write × (new.count ≡ length o.letters)
Sends cause k old after new statuses.OutOfMemory = MayLack k.node cause × (after ≡ k) × (new ≡ old)
Sends cause k old after new (statuses.Node fault) = Takes k.node cause (Err fault) × (after ≡ k) × (new ≡ old)
Sends cause k old after new _ = ⊥

-- a letter comes, where one was read, and else nothing changes
abbrev pub Receives : Result Letter Status → Held → Sent → Held → Sent → Status → Type 0
Receives (Ok l) k old after new status = Sends (Receive l) k old after new status
Receives (Err unread) k old after new status = (status ≡ unread) × (after ≡ k) × (new ≡ old)

-- a handle is asked to have its node receive the letter that bytes spell
abbrev pub ReceivesBytes : List ℕ → Handle → Sent → Handle → Sent → Status → Type 0
ReceivesBytes bytes h old new out' status = (read : Result Letter Status) × Reads bytes read × Asks (Receives read) h old new out' status

-- the node of a number
abbrev pub node_of : ℕ → Option ℕ
node_of number = if nat_lt number 5 then Some number else None

-- what is learned is told to a node, where there is one of that number
abbrev pub Tells : Option ℕ → ℕ → Held → Sent → Held → Sent → Status → Type 0
Tells (Some to) q k old after new status = Sends (Tell to q) k old after new status
Tells None q k old after new status = (status ≡ statuses.BadField) × (after ≡ k) × (new ≡ old)

-- the letter at a place among those of the last call is told by its bytes
abbrev pub TellsLetter : ℕ → Held → Told → Held → Told → Status → Type 0
TellsLetter i k old after new status =
    MatchOption (slice_get k.letters.items i) ((status ≡ statuses.Absent) × (new ≡ old)) (λ l. TellsBytes l old new status) × (after ≡ k)

-- the value that is learned at a place is told, whole, or how much room it wants
abbrev pub TellsValue : ℕ → Held → Told → Held → Told → Status → Type 0
TellsValue q k old after new statuses.Done =
    (v : List ℕ) × (at k.node.view.tally.learned q ≡ Some v) × (length v ≤ length old.room)
    × (new ≡ told (over_front v old.room) (length v)) × (after ≡ k)
TellsValue q k old after new statuses.NoRoom =
    (v : List ℕ) × (at k.node.view.tally.learned q ≡ Some v) × (length old.room < length v)
    × (new ≡ told old.room (length v)) × (after ≡ k)
TellsValue q k old after new statuses.Absent = (at k.node.view.tally.learned q ≡ None) × (after ≡ k) × (new ≡ old)
TellsValue q k old after new _ = ⊥

-- a node releases what it has not released yet, and that is kept, and how much it is is told; memory is wanted only
-- where something is left to be released
abbrev pub Releases : ℕ → Held → ℕ → Held → ℕ → Status → Type 0
Releases now k old after new statuses.Done =
    (after.node ≡ record k.node { view = released_all k.node.view }) × (after.letters ≡ k.letters)
    × (after.outputs.items ≡ released now k.node.view.cursor (outputs_of_values (gapless k.node.view)))
    × (new ≡ length after.outputs.items)
Releases now k old after new statuses.OutOfMemory = ¬ HasReleasedAll k.node × (after ≡ k) × (new ≡ old)
Releases now k old after new _ = ⊥

-- where an output is told: its place in the log, its fields, and room for the body of a MAP
pub record Written : Type 0 where
  pub place : ℕ
  pub output : OutputFields
  pub body : List ℕ

abbrev pub written : ℕ → OutputFields → List ℕ → Written
written place output body = record { place = place; output = output; body = body }

-- the output at a place among those of the last release is told, the body of a MAP whole
abbrev pub TellsOutput : ℕ → Held → Written → Held → Written → Status → Type 0
TellsOutput i k old after new statuses.Done =
    (n : Numbered) × (slice_get k.outputs.items i ≡ Some n) × FitsRoom n.output
    × (new ≡ written n.place (output_fields n.output) (body_after n.output old.body)) × (after ≡ k)
TellsOutput i k old after new statuses.NoRoom =
    (n : Numbered) × (slice_get k.outputs.items i ≡ Some n) × ¬ FitsRoom n.output × (after ≡ k) × (new ≡ old)
TellsOutput i k old after new statuses.Absent = (slice_get k.outputs.items i ≡ None) × (after ≡ k) × (new ≡ old)
TellsOutput i k old after new _ = ⊥
