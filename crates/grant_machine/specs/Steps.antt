-- One step of the scheduler: a command's output, and the rows after it.
use Rattle.std.specs.Prelude.{ℕ, IsTrue, Option, Some, None}
use Rattle.flow_state.specs.declared.refusal.Refusal.{Refusal}
use Rattle.flow_state.specs.declared.flow.Lease.{Lease}
use Rattle.flow_state.specs.Rows.{Rows, Table, table_of, change_table}
use Rattle.flow_state.specs.Refusals.{on_table, set_channel_refusal, change_channel_refusal, add_flow_refusal}
use Rattle.flow_state.specs.Refusals.{drop_flow_refusal, request_refusal, refusal_number}
use Rattle.flow_state.specs.Changes.{is_known, with_channel, with_settings_on, with_flow, lease_given, without_flow}
use Rattle.flow_state.specs.Changes.{with_request}
use Rattle.grant_machine.specs.declared.command.Command.{Command}
use Rattle.grant_machine.specs.declared.command.Command.TheVariants as commands
use Rattle.grant_machine.specs.declared.output.Output.{Output}
use Rattle.grant_machine.specs.declared.output.Output.TheVariants as outputs
use Rattle.grant_machine_parts.specs.declared.settings.CutSettings.{CutSettings}
use Rattle.grant_machine_parts.specs.Cutting.{Filled, fill, fill_refusal, table_after}
use Rattle.grant_machine_parts.specs.Drawing.{bytes_of}

-- an output, and the rows after it
pub record Step : Type 0 where
  pub output : Output
  pub rows : Rows

-- what a cut asks, and the cut that asks it
abbrev pub cut_settings : (len not_before ack keep : ℕ) → (ranging sending : ℕ × ℕ) → CutSettings
cut_settings len not_before ack keep ranging sending = record {
  len = len;
  not_before = not_before;
  ack = ack;
  keep = keep;
  ranging_backoff = ranging;
  data_backoff = sending;
}

abbrev pub cut_command : ℕ → CutSettings → Command
cut_command ch s = commands.Cut ch s.len s.not_before s.ack s.keep s.ranging_backoff s.data_backoff

-- the first refusal of a command, if one applies
abbrev pub refusal_of : Rows → Command → Option Refusal
refusal_of rows commands.Noop = None
refusal_of rows (commands.Channel c) = set_channel_refusal rows c
refusal_of rows (commands.Change ch s) = change_channel_refusal rows ch s
refusal_of rows (commands.Flow ch modem tag last kind) = add_flow_refusal rows ch modem tag last kind
refusal_of rows (commands.Drop ch sid) = drop_flow_refusal rows ch sid
refusal_of rows (commands.Request ch sid n sent) = request_refusal rows ch sid n sent
refusal_of rows (commands.Cut ch len not_before ack keep ranging sending) =
    on_table rows ch (λ t. fill_refusal t.row (cut_settings len not_before ack keep ranging sending))

-- the MAP of a filled table
abbrev pub map_output : ℕ → Table → Filled → Output
map_output ch t f = outputs.Map ch f.span.start f.span.len (bytes_of t f)

abbrev pub cut_step : Rows → ℕ → Table → Filled → Step
cut_step rows ch t f = record { output = map_output ch t f; rows = change_table rows ch (λ u. table_after u f) }

abbrev pub cut_on : Option Table → Rows → ℕ → CutSettings → Step
cut_on (Some t) rows ch s = cut_step rows ch t (fill t s)
cut_on None rows ch s = record { output = outputs.Nothing; rows = rows }

-- a lease as it is told to a modem
abbrev pub lease_output : (modem ch : ℕ) → Lease → Output
lease_output modem ch l = outputs.Assigned modem ch l.sid l.first l.last

-- a command that isn't refused
abbrev pub accepted : Rows → Command → Step
accepted rows commands.Noop = record { output = outputs.Nothing; rows = rows }
accepted rows (commands.Channel c) = record { output = outputs.ChannelSet c.id c.ucd; rows = with_channel rows c }
accepted rows (commands.Change ch s) = record { output = outputs.ChannelSet ch s.ucd; rows = with_settings_on rows ch s }
accepted rows (commands.Flow ch modem tag last kind) = record { output = lease_output modem ch (lease_given rows ch modem tag last); rows = with_flow rows ch modem tag last kind }
accepted rows (commands.Drop ch sid) = record { output = outputs.Nothing; rows = without_flow rows ch sid }
accepted rows (commands.Request ch sid n sent) = record { output = outputs.Nothing; rows = with_request rows ch sid n sent }
accepted rows (commands.Cut ch len not_before ack keep ranging sending) =
    cut_on (table_of rows ch) rows ch (cut_settings len not_before ack keep ranging sending)

-- a refusal is told by its number and changes nothing
abbrev pub step_on : Option Refusal → Rows → Command → Step
step_on (Some refusal) rows command = record { output = outputs.Refused (refusal_number refusal); rows = rows }
step_on None rows command = accepted rows command

abbrev pub step : Rows → Command → Step
step rows command = step_on (refusal_of rows command) rows command

-- what takes no memory: nothing to do, a flow dropped, a flow of a modem and tag whose lease isn't over, a channel changed
abbrev pub TakesNoMemory : Rows → Command → Type 0
TakesNoMemory rows commands.Noop = Unit {0}
TakesNoMemory rows (commands.Channel c) = ⊥
TakesNoMemory rows (commands.Change ch s) = Unit {0}
TakesNoMemory rows (commands.Flow ch modem tag last kind) = IsTrue (is_known rows ch modem tag)
TakesNoMemory rows (commands.Drop ch sid) = Unit {0}
TakesNoMemory rows (commands.Request ch sid n sent) = ⊥
TakesNoMemory rows (commands.Cut ch len not_before ack keep ranging sending) = ⊥
