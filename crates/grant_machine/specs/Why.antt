-- Why a command is refused: the first limit that refuses, in the order of the limits.
use Rattle.std.specs.Prelude.{ℕ, if◌then◌else◌, Option, None}
use Rattle.flow_state.specs.declared.channel.ChannelRow.{ChannelRow}
use Rattle.flow_state.specs.declared.reason.Field.{Field}
use Rattle.flow_state.specs.declared.reason.Field.TheVariants as fields
use Rattle.flow_state.specs.declared.reason.Reason.{Reason}
use Rattle.flow_state.specs.Limits.{last_time, most_minislots}
use Rattle.flow_state.specs.Reasons.{first_of, outside, why_backoff, why_set_channel, why_change, why_flow, why_drop}
use Rattle.flow_state.specs.Reasons.{why_request, why_on}
use Rattle.flow_state.specs.Rows.{Rows}
use Rattle.grant_machine_parts.specs.declared.settings.CutSettings.{CutSettings}
use Rattle.grant_machine_parts.specs.Cutting.{is_own, end_of, span_of}
use Rattle.grant_machine.specs.declared.command.Command.{Command}
use Rattle.grant_machine.specs.declared.command.Command.TheVariants as commands
use Rattle.grant_machine.specs.Steps.{cut_settings}

-- a cut's back-off is the channel's own, or one
abbrev pub why_cut_backoff : Field → ℕ × ℕ → Option Reason
why_cut_backoff field pair = if is_own pair then None else why_backoff field pair.0 pair.1

-- how long a cut's MAP is, and its times
abbrev pub why_times : CutSettings → Option Reason
why_times s = first_of (outside fields.Len s.len 1 most_minislots) (outside fields.NotBefore s.not_before 0 last_time) (outside fields.Ack s.ack 0 last_time)

-- what a cut keeps and tells
abbrev pub why_kept : CutSettings → Option Reason
why_kept s =
    first_of (outside fields.Keep s.keep 0 most_minislots) (why_cut_backoff fields.Ranging s.ranging_backoff) (why_cut_backoff fields.Data s.data_backoff)

abbrev pub why_cut : ChannelRow → CutSettings → Option Reason
why_cut row s = first_of (why_times s) (outside fields.End (end_of (span_of row s.len s.not_before)) 0 last_time) (why_kept s)

-- the first limit that refuses a command, if one does
abbrev pub why_refused : Rows → Command → Option Reason
why_refused rows commands.Noop = None
why_refused rows (commands.Channel c) = why_set_channel rows c
why_refused rows (commands.Change ch s) = why_on rows ch (λ t. why_change t s)
why_refused rows (commands.Flow ch modem tag last kind) = why_on rows ch (λ t. why_flow t modem tag last kind)
why_refused rows (commands.Drop ch sid) = why_on rows ch (λ t. why_drop t sid)
why_refused rows (commands.Request ch sid n sent) = why_on rows ch (λ t. why_request t sid n sent)
why_refused rows (commands.Cut ch len not_before ack keep ranging sending) =
    why_on rows ch (λ t. why_cut t.row (cut_settings len not_before ack keep ranging sending))
