-- What calls on a scheduler do.
use Rattle.std.specs.Prelude.{◌≡◌, ℕ, List, IsSome, Option, None, Some}
use Rattle.flow_state.specs.Rows.{Rows}
use Rattle.grant_machine.specs.declared.command.Command.{Command}
use Rattle.grant_machine.specs.declared.output.Output.{Output}
use Rattle.grant_machine.specs.Steps.{step, refusal_of, TakesNoMemory}
use Rattle.command_log.specs.Spelling.{Spells, SpellsNone}
use Rattle.upsched_c.specs.declared.handle.Held.{Held}
use Rattle.upsched_c.specs.declared.handle.Held.TheVariants as holds
use Rattle.upsched_c_parts.specs.declared.output.OutputFields.{OutputFields}
use Rattle.upsched_c.specs.declared.status.Status.{Status}
use Rattle.upsched_c.specs.declared.status.Status.TheVariants as statuses
use Rattle.upsched_c_parts.specs.Outputs.{output_fields, body_after, FitsRoom}
use Rattle.upsched_c.specs.Handles.{Asks}

-- where an output is told: its fields, and room for the body of a MAP
pub record Told : Type 0 where
  pub output : OutputFields
  pub body : List ℕ

abbrev pub told : OutputFields → List ℕ → Told
told output body = record { output = output; body = body }

-- an output is told
abbrev pub tell : Output → Told → Told
tell output old = told (output_fields output) (body_after output old.body)

-- a command that wants memory: it isn't refused, and is none that takes none
pub record WantsMemory (rows : Rows) (command : Command) : Type 0 where
  pub not_refused : ¬ IsSome (refusal_of rows command)
  pub takes_some : ¬ TakesNoMemory rows command

-- a scheduler is given a command, if there is one: it makes one step, and its output is told, the body whole
abbrev pub Applies : Option Command → Rows → Told → Rows → Told → Status → Type 0
Applies (Some command) rows old after new statuses.Done =
    (after ≡ (step rows command).rows) × (new ≡ tell (step rows command).output old) × FitsRoom (step rows command).output
Applies (Some command) rows old after new statuses.OutOfMemory = WantsMemory rows command × (after ≡ rows) × (new ≡ old)
Applies (Some command) rows old after new _ = ⊥
Applies None rows old after new status = (status ≡ statuses.BadField) × (after ≡ rows) × (new ≡ old)

-- what a handle holds is asked as a scheduler; a modem or a MAP is none, and stays as it is
abbrev pub AsMachine : {A : Type 0} → (Rows → A → Rows → A → Status → Type 0) → Held → A → Held → A → Status → Type 0
AsMachine Does (holds.Machine rows) out (holds.Machine after) out' status = Does rows out after out' status
AsMachine Does (holds.Machine rows) out (holds.Modem _) out' status = ⊥
AsMachine Does (holds.Machine rows) out (holds.Map _) out' status = ⊥
AsMachine Does (holds.Modem v) out new out' status = (status ≡ statuses.OtherKind) × (new ≡ holds.Modem v) × (out' ≡ out)
AsMachine Does (holds.Map body) out new out' status = (status ≡ statuses.OtherKind) × (new ≡ holds.Map body) × (out' ≡ out)

-- a handle is asked to apply a command, if there is one
abbrev pub AsksMachine : Option Command → Option Held → Told → Option Held → Told → Status → Type 0
AsksMachine command old out new out' status = Asks (AsMachine (Applies command)) old out new out' status

-- the command that bytes spell, if they spell one
abbrev pub IsReading : List ℕ → Option Command → Type 0
IsReading bytes (Some command) = Spells bytes command
IsReading bytes None = SpellsNone bytes

-- a handle is asked to apply the command that bytes spell
abbrev pub AsksByBytes : List ℕ → Option Held → Told → Option Held → Told → Status → Type 0
AsksByBytes bytes old out new out' status = (command : Option Command) × IsReading bytes command × AsksMachine command old out new out' status
