-- Worked examples of the definitions.
use Rattle.std.proofs.Common.{◌≡◌, ℕ, List, [], ◌∷◌, ◌++◌, replicate, Some, None, map, refl}
use Rattle.flow_state.specs.declared.channel.Channel.{Channel}
use Rattle.flow_state.specs.declared.channel.Phy.TheVariants.{Tdma, Advanced}
use Rattle.flow_state.specs.declared.settings.ChannelSettings.{ChannelSettings}
use Rattle.flow_state.specs.declared.flow.FlowKind.TheVariants.{BestEffort, Ugs, Poll, Station, Initial}
use Rattle.flow_state.specs.Limits.{last_time}
use Rattle.grant_machine.specs.declared.command.Command.TheVariants as commands
use Rattle.grant_machine.specs.declared.output.Output.TheVariants as outputs
use Rattle.command_log.specs.Spelling.{spelling}
use Rattle.command_log.specs.Reading.{command_in}
use Rattle.command_log.specs.Values.{outputs_of_values}

abbrev channel_x : Channel
channel_x = record { id = 1; ucd = 7; phy = Tdma; short_max = 16; ranging_backoff = (2, 5); data_backoff = (3, 8); base = 1000 }

abbrev channel_fields : List ℕ
channel_fields = 0x01 ∷ 0x07 ∷ 0x00 ∷ 0x10 ∷ 0x02 ∷ 0x05 ∷ 0x03 ∷ 0x08 ∷ 0x00 ∷ 0x00 ∷ 0x00 ∷ 0x00 ∷ 0x00 ∷ 0x00 ∷ 0x03 ∷ 0xE8 ∷ []

abbrev channel_bytes : List ℕ
channel_bytes = 0x01 ∷ channel_fields

channel_spelled : spelling (commands.Channel channel_x) ≡ channel_bytes
channel_spelled = refl

channel_read : command_in channel_bytes ≡ Some (commands.Channel channel_x)
channel_read = refl

-- the same channel with an Advanced PHY: another first byte, and of the same length
advanced_spelled : spelling (commands.Channel (record channel_x { phy = Advanced })) ≡ 0x06 ∷ channel_fields
advanced_spelled = refl

advanced_read : command_in (0x06 ∷ channel_fields) ≡ Some (commands.Channel (record channel_x { phy = Advanced }))
advanced_read = refl

advanced_short : command_in (0x06 ∷ 0x01 ∷ 0x07 ∷ 0x00 ∷ 0x10 ∷ 0x02 ∷ 0x05 ∷ 0x03 ∷ 0x08 ∷ 0x00 ∷ 0x00 ∷ 0x00 ∷ 0x00 ∷ 0x00 ∷ 0x00 ∷ 0x03 ∷ []) ≡ None
advanced_short = refl

advanced_long : command_in (0x06 ∷ channel_fields ++ 0x00 ∷ []) ≡ None
advanced_long = refl

request_spelled : spelling (commands.Request 1 1 20 990) ≡ 0x04 ∷ 0x01 ∷ 0x00 ∷ 0x01 ∷ 0x00 ∷ 0x14 ∷ 0x00 ∷ 0x00 ∷ 0x00 ∷ 0x00 ∷ 0x00 ∷ 0x00 ∷ 0x03 ∷ 0xDE ∷ []
request_spelled = refl

-- a byte less, a byte more, and another first byte
channel_short : command_in (0x01 ∷ 0x01 ∷ 0x07 ∷ 0x00 ∷ 0x10 ∷ 0x02 ∷ 0x05 ∷ 0x03 ∷ 0x08 ∷ 0x00 ∷ 0x00 ∷ 0x00 ∷ 0x00 ∷ 0x00 ∷ 0x00 ∷ 0x03 ∷ []) ≡ None
channel_short = refl

channel_long : command_in (channel_bytes ++ 0x00 ∷ []) ≡ None
channel_long = refl

other_first : command_in (0xFF ∷ 0x01 ∷ 0x07 ∷ 0x00 ∷ 0x10 ∷ 0x02 ∷ 0x05 ∷ 0x03 ∷ 0x08 ∷ 0x00 ∷ 0x00 ∷ 0x00 ∷ 0x00 ∷ 0x00 ∷ 0x00 ∷ 0x03 ∷ 0xE8 ∷ []) ≡ None
other_first = refl

-- each form is read back
kinds_read : map (λ c. command_in (spelling c)) (commands.Noop ∷ commands.Flow 1 50 1 last_time (BestEffort 3) ∷ commands.Flow 1 50 70000 last_time (Ugs 4 40 8 1000) ∷ commands.Flow 2 51 2 last_time (Poll 50 0 1000) ∷ commands.Flow 1 50 1 last_time (Station 2 40 8 1000) ∷ commands.Flow 1 0 1 5000 (Initial 30 1000 50 1010) ∷ commands.Drop 1 258 ∷ commands.Request 1 1 20 990 ∷ commands.Cut 1 4096 5 6 0 (255, 255) (255, 255) ∷ commands.Cut 1 100 0 995 8 (255, 255) (0, 15) ∷ [])
    ≡ map Some (commands.Noop ∷ commands.Flow 1 50 1 last_time (BestEffort 3) ∷ commands.Flow 1 50 70000 last_time (Ugs 4 40 8 1000) ∷ commands.Flow 2 51 2 last_time (Poll 50 0 1000) ∷ commands.Flow 1 50 1 last_time (Station 2 40 8 1000) ∷ commands.Flow 1 0 1 5000 (Initial 30 1000 50 1010) ∷ commands.Drop 1 258 ∷ commands.Request 1 1 20 990 ∷ commands.Cut 1 4096 5 6 0 (255, 255) (255, 255) ∷ commands.Cut 1 100 0 995 8 (255, 255) (0, 15) ∷ [])
kinds_read = refl

-- a lease that ends is written, and one that doesn't is not: with its last minislot written it's no command
leased_flow : spelling (commands.Flow 1 50 1 1049 (BestEffort 3)) ≡ 0x07 ∷ 0x01 ∷ 0x00 ∷ 0x00 ∷ 0x00 ∷ 0x32 ∷ 0x00 ∷ 0x00 ∷ 0x00 ∷ 0x01 ∷ 0x00 ∷ 0x00 ∷ 0x00 ∷ 0x00 ∷ 0x00 ∷ 0x00 ∷ 0x04 ∷ 0x19 ∷ 0x00 ∷ 0x03 ∷ []
leased_flow = refl

leased_read : command_in (spelling (commands.Flow 1 50 1 1049 (BestEffort 3))) ≡ Some (commands.Flow 1 50 1 1049 (BestEffort 3))
leased_read = refl

endless_flow : spelling (commands.Flow 1 50 1 last_time (BestEffort 3)) ≡ 0x02 ∷ 0x01 ∷ 0x00 ∷ 0x00 ∷ 0x00 ∷ 0x32 ∷ 0x00 ∷ 0x00 ∷ 0x00 ∷ 0x01 ∷ 0x00 ∷ 0x03 ∷ []
endless_flow = refl

endless_leased : command_in (0x07 ∷ 0x01 ∷ 0x00 ∷ 0x00 ∷ 0x00 ∷ 0x32 ∷ 0x00 ∷ 0x00 ∷ 0x00 ∷ 0x01 ∷ 0x40 ∷ 0x00 ∷ 0x00 ∷ 0x00 ∷ 0x00 ∷ 0x00 ∷ 0x00 ∷ 0x00 ∷ 0x00 ∷ 0x03 ∷ []) ≡ None
endless_leased = refl

-- flows for ranging, the second with a lease that ends; and a flow of no kind
station_flow : spelling (commands.Flow 1 50 1 last_time (Station 2 40 8 1000)) ≡ 0x02 ∷ 0x01 ∷ 0x00 ∷ 0x00 ∷ 0x00 ∷ 0x32 ∷ 0x00 ∷ 0x00 ∷ 0x00 ∷ 0x01 ∷ 0x03 ∷ 0x00 ∷ 0x02 ∷ 0x00 ∷ 0x00 ∷ 0x00 ∷ 0x28 ∷ 0x00 ∷ 0x00 ∷ 0x00 ∷ 0x08 ∷ 0x00 ∷ 0x00 ∷ 0x00 ∷ 0x00 ∷ 0x00 ∷ 0x00 ∷ 0x03 ∷ 0xE8 ∷ []
station_flow = refl

initial_flow : spelling (commands.Flow 1 0 1 last_time (Initial 30 1000 50 1010)) ≡ 0x02 ∷ 0x01 ∷ 0x00 ∷ 0x00 ∷ 0x00 ∷ 0x00 ∷ 0x00 ∷ 0x00 ∷ 0x00 ∷ 0x01 ∷ 0x04 ∷ 0x00 ∷ 0x1E ∷ 0x00 ∷ 0x00 ∷ 0x03 ∷ 0xE8 ∷ 0x00 ∷ 0x00 ∷ 0x00 ∷ 0x32 ∷ 0x00 ∷ 0x00 ∷ 0x00 ∷ 0x00 ∷ 0x00 ∷ 0x00 ∷ 0x03 ∷ 0xF2 ∷ []
initial_flow = refl

leased_initial_flow : spelling (commands.Flow 1 0 1 5000 (Initial 30 1000 50 1010)) ≡ 0x07 ∷ 0x01 ∷ 0x00 ∷ 0x00 ∷ 0x00 ∷ 0x00 ∷ 0x00 ∷ 0x00 ∷ 0x00 ∷ 0x01 ∷ 0x00 ∷ 0x00 ∷ 0x00 ∷ 0x00 ∷ 0x00 ∷ 0x00 ∷ 0x13 ∷ 0x88 ∷ 0x04 ∷ 0x00 ∷ 0x1E ∷ 0x00 ∷ 0x00 ∷ 0x03 ∷ 0xE8 ∷ 0x00 ∷ 0x00 ∷ 0x00 ∷ 0x32 ∷ 0x00 ∷ 0x00 ∷ 0x00 ∷ 0x00 ∷ 0x00 ∷ 0x00 ∷ 0x03 ∷ 0xF2 ∷ []
leased_initial_flow = refl

flow_of_no_kind : command_in (0x02 ∷ 0x01 ∷ 0x00 ∷ 0x00 ∷ 0x00 ∷ 0x32 ∷ 0x00 ∷ 0x00 ∷ 0x00 ∷ 0x01 ∷ 0x05 ∷ 0x00 ∷ 0x02 ∷ 0x00 ∷ 0x00 ∷ 0x00 ∷ 0x28 ∷ 0x00 ∷ 0x00 ∷ 0x00 ∷ 0x08 ∷ 0x00 ∷ 0x00 ∷ 0x00 ∷ 0x00 ∷ 0x00 ∷ 0x00 ∷ 0x03 ∷ 0xE8 ∷ []) ≡ None
flow_of_no_kind = refl

-- a change of the channel to each PHY; another byte for the PHY, and a byte less
abbrev settings_c : ChannelSettings
settings_c = record { ucd = 8; phy = Tdma; short_max = 8; ranging_backoff = (2, 5); data_backoff = (3, 8) }

change_spelled : spelling (commands.Change 1 settings_c) ≡ 0x0A ∷ 0x01 ∷ 0x08 ∷ 0x00 ∷ 0x00 ∷ 0x08 ∷ 0x02 ∷ 0x05 ∷ 0x03 ∷ 0x08 ∷ []
change_spelled = refl

advanced_change_spelled : spelling (commands.Change 1 (record settings_c { phy = Advanced })) ≡ 0x0A ∷ 0x01 ∷ 0x08 ∷ 0x01 ∷ 0x00 ∷ 0x08 ∷ 0x02 ∷ 0x05 ∷ 0x03 ∷ 0x08 ∷ []
advanced_change_spelled = refl

change_to_no_phy : command_in (0x0A ∷ 0x01 ∷ 0x08 ∷ 0x02 ∷ 0x00 ∷ 0x08 ∷ 0x02 ∷ 0x05 ∷ 0x03 ∷ 0x08 ∷ []) ≡ None
change_to_no_phy = refl

change_short : command_in (0x0A ∷ 0x01 ∷ 0x08 ∷ 0x00 ∷ 0x00 ∷ 0x08 ∷ 0x02 ∷ 0x05 ∷ 0x03 ∷ []) ≡ None
change_short = refl

-- a cut that keeps minislots, one that tells a back-off, and one with nothing set, which is spelled without
kept_cut : spelling (commands.Cut 1 100 0 995 8 (255, 255) (255, 255)) ≡ 0x09 ∷ 0x01 ∷ 0x00 ∷ 0x64 ∷ 0x00 ∷ 0x00 ∷ 0x00 ∷ 0x00 ∷ 0x00 ∷ 0x00 ∷ 0x00 ∷ 0x00 ∷ 0x00 ∷ 0x00 ∷ 0x00 ∷ 0x00 ∷ 0x00 ∷ 0x00 ∷ 0x03 ∷ 0xE3 ∷ 0x00 ∷ 0x08 ∷ 0xFF ∷ 0xFF ∷ 0xFF ∷ 0xFF ∷ []
kept_cut = refl

told_cut : spelling (commands.Cut 1 1 0 0 0 (255, 255) (0, 0)) ≡ 0x09 ∷ 0x01 ∷ 0x00 ∷ 0x01 ∷ replicate 18 0x00 ++ 0xFF ∷ 0xFF ∷ 0x00 ∷ 0x00 ∷ []
told_cut = refl

nothing_set : command_in (0x09 ∷ 0x01 ∷ 0x00 ∷ 0x01 ∷ replicate 18 0x00 ++ 0xFF ∷ 0xFF ∷ 0xFF ∷ 0xFF ∷ []) ≡ None
nothing_set = refl

set_cut_short : command_in (0x09 ∷ 0x01 ∷ 0x00 ∷ 0x01 ∷ replicate 18 0x00 ++ 0xFF ∷ 0xFF ∷ 0x00 ∷ []) ≡ None
set_cut_short = refl

-- values that are no command do nothing
outputs_in_order : outputs_of_values (channel_bytes ∷ (0xFF ∷ []) ∷ spelling (commands.Cut 1 1 0 0 0 (255, 255) (255, 255)) ∷ []) ≡ outputs.ChannelSet 1 7 ∷ outputs.Nothing ∷ outputs.Map 1 1000 1
    (0x01 ∷ 0x07 ∷ 0x02 ∷ 0x00 ∷ 0x00 ∷ 0x00 ∷ 0x03 ∷ 0xE8 ∷ 0x00 ∷ 0x00 ∷ 0x00 ∷ 0x00 ∷ 0x02 ∷ 0x05 ∷ 0x03 ∷ 0x08 ∷ 0xFF ∷ 0xFC ∷ 0x40 ∷ 0x00 ∷ 0x00 ∷ 0x01 ∷ 0xC0 ∷ 0x01 ∷ []) ∷ []
outputs_in_order = refl
