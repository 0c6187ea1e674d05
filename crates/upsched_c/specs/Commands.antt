-- The command that a struct of C's stands for.
use Rattle.std.specs.Prelude.{ℕ, ◌==◌, if◌then◌else◌, Option, Some, None}
use Rattle.std.specs.Option.{option_map}
use Rattle.flow_state.specs.declared.channel.Channel.{Channel}
use Rattle.flow_state.specs.declared.channel.Phy.{Phy}
use Rattle.flow_state.specs.declared.channel.Phy.TheVariants.{Tdma, Advanced}
use Rattle.flow_state.specs.declared.settings.ChannelSettings.{ChannelSettings}
use Rattle.flow_state.specs.declared.flow.FlowKind.{FlowKind}
use Rattle.flow_state.specs.declared.flow.FlowKind.TheVariants.{BestEffort, Ugs, Poll, Station, Initial}
use Rattle.grant_machine.specs.declared.command.Command.{Command}
use Rattle.grant_machine.specs.declared.command.Command.TheVariants as commands
use Rattle.upsched_c.specs.declared.command.CommandFields.{CommandFields}

-- the PHY of a number
abbrev pub phy_value : ℕ → Option Phy
phy_value n = if n == 0 then Some Tdma else if n == 1 then Some Advanced else None

-- the back-offs for ranging and for data
abbrev pub ranging_value : CommandFields → ℕ × ℕ
ranging_value c = (c.ranging_start, c.ranging_end)

abbrev pub sending_value : CommandFields → ℕ × ℕ
sending_value c = (c.data_start, c.data_end)

-- the channel of this PHY
abbrev pub channel_value : CommandFields → Phy → Channel
channel_value c phy = record {
  id = c.ch;
  ucd = c.ucd;
  phy = phy;
  short_max = c.short_max;
  ranging_backoff = ranging_value c;
  data_backoff = sending_value c;
  base = c.base;
}

-- the settings of a change to this PHY
abbrev pub settings_value : CommandFields → Phy → ChannelSettings
settings_value c phy = record {
  ucd = c.ucd;
  phy = phy;
  short_max = c.short_max;
  ranging_backoff = ranging_value c;
  data_backoff = sending_value c;
}

-- the service of a flow, by its number
abbrev pub kind_value : CommandFields → Option FlowKind
kind_value c =
    if c.service == 0 then Some (BestEffort c.priority)
    else if c.service == 1 then Some (Ugs c.minislots c.interval c.jitter c.base)
    else if c.service == 2 then Some (Poll c.interval c.jitter c.base)
    else if c.service == 3 then Some (Station c.minislots c.interval c.jitter c.base)
    else if c.service == 4 then Some (Initial c.minislots c.interval c.jitter c.base)
    else None

-- a cut that keeps so many minislots, with these back-offs
abbrev pub cut_value : CommandFields → (keep : ℕ) → (ranging sending : ℕ × ℕ) → Command
cut_value c keep ranging sending = commands.Cut c.ch c.minislots c.not_before c.ack keep ranging sending

-- the command of a number and the fields that it has
abbrev pub command_value : CommandFields → Option Command
command_value c =
    if c.kind == 0 then Some commands.Noop
    else if c.kind == 1 then option_map (λ phy. commands.Channel (channel_value c phy)) (phy_value c.phy)
    else if c.kind == 2 then option_map (λ kind. commands.Flow c.ch c.modem c.tag c.last kind) (kind_value c)
    else if c.kind == 3 then Some (commands.Drop c.ch c.sid)
    else if c.kind == 4 then Some (commands.Request c.ch c.sid c.minislots c.sent)
    else if c.kind == 5 then Some (cut_value c 0 (255, 255) (255, 255))
    else if c.kind == 6 then Some (cut_value c c.keep (ranging_value c) (sending_value c))
    else if c.kind == 7 then option_map (λ phy. commands.Change c.ch (settings_value c phy)) (phy_value c.phy)
    else None
