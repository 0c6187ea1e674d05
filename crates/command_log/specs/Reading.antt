-- Which command bytes stand for: by the first byte and the length, for a flow by its kind's byte too, and for a change
-- by that of its PHY.
use Rattle.std.specs.Prelude.{ℕ, ◌<◌, ◌^◌, ◌==◌, ◌&&◌, Bool, if◌then◌else◌, List, length, drop, Option, Some, None}
use Rattle.std.specs.Prelude.{slice_index, unwrap_or}
use Rattle.std.specs.Option.{option_map}
use Rattle.std.specs.Int.{Width, w16, w32, w64, from_be_bytes}
use Rattle.flow_state.specs.declared.channel.Channel.{Channel}
use Rattle.flow_state.specs.declared.channel.Phy.{Phy}
use Rattle.flow_state.specs.declared.channel.Phy.TheVariants.{Tdma, Advanced}
use Rattle.flow_state.specs.declared.settings.ChannelSettings.{ChannelSettings}
use Rattle.flow_state.specs.declared.flow.FlowKind.{FlowKind}
use Rattle.flow_state.specs.declared.flow.FlowKind.TheVariants.{BestEffort, Ugs, Poll, Station, Initial}
use Rattle.flow_state.specs.Limits.{last_time}
use Rattle.grant_machine.specs.declared.command.Command.{Command}
use Rattle.grant_machine.specs.declared.command.Command.TheVariants as commands
use Rattle.command_log.specs.Spelling.{is_plain}

-- each element is a byte
abbrev pub AreBytes : List ℕ → Type 0
AreBytes bytes = (i : ℕ) → slice_index bytes i < 2 ^ 8

-- the byte at a place, and the number that begins there
abbrev pub byte : List ℕ → ℕ → ℕ
byte bytes i = slice_index bytes i

abbrev pub number : Width → List ℕ → ℕ → ℕ
number w bytes i = from_be_bytes w (drop i bytes)

-- bytes of this first byte and this length
abbrev pub is_form : List ℕ → (first len : ℕ) → Bool
is_form bytes first len = (byte bytes 0 == first) && (length bytes == len)

-- a channel of this PHY, which the first byte tells
abbrev pub channel_in : Phy → List ℕ → Channel
channel_in phy bytes = record {
  id = byte bytes 1;
  ucd = byte bytes 2;
  phy = phy;
  short_max = number w16 bytes 3;
  ranging_backoff = (byte bytes 5, byte bytes 6);
  data_backoff = (byte bytes 7, byte bytes 8);
  base = number w64 bytes 9;
}

-- the settings of a change to this PHY
abbrev pub settings_in : Phy → List ℕ → ChannelSettings
settings_in phy bytes = record {
  ucd = byte bytes 2;
  phy = phy;
  short_max = number w16 bytes 4;
  ranging_backoff = (byte bytes 6, byte bytes 7);
  data_backoff = (byte bytes 8, byte bytes 9);
}

-- a change, whose fourth byte tells the PHY
abbrev pub change_in : List ℕ → Option Command
change_in bytes =
    if byte bytes 3 == 0 then Some (commands.Change (byte bytes 1) (settings_in Tdma bytes))
    else if byte bytes 3 == 1 then Some (commands.Change (byte bytes 1) (settings_in Advanced bytes))
    else None

-- a kind with a size, of which something comes by itself
abbrev pub sized_in : List ℕ → ((size interval jitter base : ℕ) → FlowKind) → FlowKind
sized_in bytes kind = kind (number w16 bytes 1) (number w32 bytes 3) (number w32 bytes 7) (number w64 bytes 11)

-- a flow's kind, which its first byte and the length tell
abbrev pub kind_in : List ℕ → Option FlowKind
kind_in bytes =
    if is_form bytes 0 2 then Some (BestEffort (byte bytes 1))
    else if is_form bytes 1 19 then Some (sized_in bytes Ugs)
    else if is_form bytes 2 17 then Some (Poll (number w32 bytes 1) (number w32 bytes 5) (number w64 bytes 9))
    else if is_form bytes 3 19 then Some (sized_in bytes Station)
    else if is_form bytes 4 19 then Some (sized_in bytes Initial)
    else None

abbrev pub flow_in : List ℕ → (last : ℕ) → FlowKind → Command
flow_in bytes last kind = commands.Flow (byte bytes 1) (number w32 bytes 2) (number w32 bytes 6) last kind

-- a flow whose lease has this last minislot, with its kind from a place on
abbrev pub flow_command_in : List ℕ → (last place : ℕ) → Option Command
flow_command_in bytes last place = option_map (flow_in bytes last) (kind_in (drop place bytes))

-- a flow whose last minislot is written: another than the last time of all
abbrev pub leased_flow_in : List ℕ → Option Command
leased_flow_in bytes =
    if number w64 bytes 10 == last_time then None
    else flow_command_in bytes (number w64 bytes 10) 18

-- a cut with these settings of its own
abbrev pub cut_in : List ℕ → (keep : ℕ) → (ranging sending : ℕ × ℕ) → Command
cut_in bytes keep ranging sending = commands.Cut (byte bytes 1) (number w16 bytes 2) (number w64 bytes 4) (number w64 bytes 12) keep ranging sending

-- a cut whose settings are written: others than none
abbrev pub set_cut_in : List ℕ → Option Command
set_cut_in bytes =
    if is_plain (number w16 bytes 20) (byte bytes 22, byte bytes 23) (byte bytes 24, byte bytes 25) then None
    else Some (cut_in bytes (number w16 bytes 20) (byte bytes 22, byte bytes 23) (byte bytes 24, byte bytes 25))

-- the command of bytes, if they are one's
abbrev pub command_in : List ℕ → Option Command
command_in bytes =
    if is_form bytes 0 1 then Some commands.Noop
    else if is_form bytes 1 17 then Some (commands.Channel (channel_in Tdma bytes))
    else if is_form bytes 6 17 then Some (commands.Channel (channel_in Advanced bytes))
    else if is_form bytes 10 10 then change_in bytes
    else if is_form bytes 3 4 then Some (commands.Drop (byte bytes 1) (number w16 bytes 2))
    else if is_form bytes 4 14 then Some (commands.Request (byte bytes 1) (number w16 bytes 2) (number w16 bytes 4) (number w64 bytes 6))
    else if is_form bytes 5 20 then Some (cut_in bytes 0 (255, 255) (255, 255))
    else if is_form bytes 9 26 then set_cut_in bytes
    else if byte bytes 0 == 2 then flow_command_in bytes last_time 10
    else if byte bytes 0 == 7 then leased_flow_in bytes
    else None

-- other bytes stand for Noop
abbrev pub command_of : List ℕ → Command
command_of bytes = unwrap_or (command_in bytes) commands.Noop
