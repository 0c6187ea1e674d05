-- What calls do that write a scheduler's tables as bytes, and that open a scheduler at such tables.
use Rattle.std.specs.Prelude.{◌≡◌, ◌⊎◌, ℕ, ◌<◌, ◌≤◌, List, length, Option, Some, None, Err}
use Rattle.flow_state.specs.Rows.{Rows}
use Rattle.row_bytes.specs.declared.fault.RowsFault.{RowsFault}
use Rattle.row_bytes.specs.declared.fault.RowsFault.TheVariants.{NotFirm}
use Rattle.row_bytes.specs.Spelling.{rows_spelling}
use Rattle.row_bytes.specs.Tables.{AreRead, Fails, Spells, TakesMemory}
use Rattle.upsched_c_parts.specs.Fronts.{over_front}
use Rattle.upsched_c.specs.declared.handle.Held.{Held}
use Rattle.upsched_c.specs.declared.handle.Held.TheVariants as holds
use Rattle.upsched_c.specs.declared.status.Status.{Status}
use Rattle.upsched_c.specs.declared.status.Status.TheVariants as statuses
use Rattle.upsched_c.specs.Codec.{Written, written}
use Rattle.upsched_c.specs.Handles.{Asks}
use Rattle.upsched_c.specs.Machines.{AsMachine}

-- the tables are written: their bytes, which spell them, over the front of the room, and how many they are; or there is
-- no room, and how many they are; or memory is wanted
abbrev pub Saves : Rows → Written → Written → Status → Type 0
Saves rows old new statuses.Done =
    Spells (rows_spelling rows) rows × (length (rows_spelling rows) ≤ length old.bytes)
    × (new ≡ written (over_front (rows_spelling rows) old.bytes) (length (rows_spelling rows)))
Saves rows old new statuses.NoRoom = (length old.bytes < length (rows_spelling rows)) × (new ≡ record old { count = length (rows_spelling rows) })
Saves rows old new statuses.OutOfMemory = new ≡ old
Saves rows old new _ = ⊥

-- and the scheduler stays as it is
abbrev pub SavesRows : Rows → Written → Rows → Written → Status → Type 0
SavesRows rows old after new status = (after ≡ rows) × Saves rows old new status

-- a handle is asked to write the tables of what it holds
abbrev pub AsksToSave : Option Held → Written → Option Held → Written → Status → Type 0
AsksToSave old out new out' status = Asks (AsMachine SavesRows) old out new out' status

-- the channel of a fault that has one, else the other
abbrev pub channel_in : RowsFault → ℕ → ℕ
channel_in (NotFirm ch) other = ch
channel_in _ other = other

-- memory may be wanted: for rows that are read, or for the handle where the bytes spell tables
abbrev pub MayLackMemory : List ℕ → Type 0
MayLackMemory bytes = TakesMemory bytes ⊎ ((rows : Rows) × Spells bytes rows)

-- a handle is opened with the scheduler whose tables the bytes spell, or stays closed: by their first fault, with its
-- channel, or since memory is wanted; an open one stays as it is
abbrev pub OpensSaved : List ℕ → Option Held → (old : ℕ) → Option Held → (ch : ℕ) → Status → Type 0
OpensSaved bytes None old new ch statuses.Done = ((rows : Rows) × Spells bytes rows × (new ≡ Some (holds.Machine rows))) × (ch ≡ old)
OpensSaved bytes None old new ch (statuses.Rows fault) = Fails ⊥ (λ e. AreRead bytes (Err e)) fault × (new ≡ None) × (ch ≡ channel_in fault old)
OpensSaved bytes None old new ch statuses.OutOfMemory = MayLackMemory bytes × (new ≡ None) × (ch ≡ old)
OpensSaved bytes None old new ch _ = ⊥
OpensSaved bytes (Some h) old new ch status = (status ≡ statuses.Open) × (new ≡ Some h) × (ch ≡ old)
