-- Commands as bytes: most significant byte first, of fixed lengths, one spelling a command (this project's format).
use Rattle.std.specs.Prelude.{◌≡◌, ℕ, ◌==◌, ◌&&◌, Bool, if◌then◌else◌, List, [], ◌∷◌, ◌++◌}
use Rattle.std.specs.Int.{w16, w32, w64, to_be_bytes}
use Rattle.flow_state.specs.declared.channel.Channel.{Channel}
use Rattle.flow_state.specs.declared.channel.Phy.{Phy}
use Rattle.flow_state.specs.declared.channel.Phy.TheVariants.{Tdma, Advanced}
use Rattle.flow_state.specs.declared.settings.ChannelSettings.{ChannelSettings}
use Rattle.flow_state.specs.declared.flow.FlowKind.{FlowKind}
use Rattle.flow_state.specs.declared.flow.FlowKind.TheVariants.{BestEffort, Ugs, Poll, Station, Initial}
use Rattle.flow_state.specs.Limits.{last_time}
use Rattle.grant_machine.specs.declared.command.Command.{Command}
use Rattle.grant_machine.specs.declared.command.Command.TheVariants as commands
use Rattle.grant_machine.specs.Fits.{FitsCommand}

-- the first byte of a channel tells its PHY
abbrev pub phy_byte : Phy → ℕ
phy_byte Tdma = 1
phy_byte Advanced = 6

-- what follows it
abbrev pub channel_spelling : Channel → List ℕ
channel_spelling c =
    c.id ∷ c.ucd ∷ to_be_bytes w16 c.short_max
    ++ c.ranging_backoff.0 ∷ c.ranging_backoff.1 ∷ c.data_backoff.0 ∷ c.data_backoff.1 ∷ to_be_bytes w64 c.base

-- the byte of a flow's kind
abbrev pub kind_byte : FlowKind → ℕ
kind_byte (BestEffort priority) = 0
kind_byte (Ugs size interval jitter base) = 1
kind_byte (Poll interval jitter base) = 2
kind_byte (Station size interval jitter base) = 3
kind_byte (Initial size interval jitter base) = 4

-- what has a size and comes by itself
abbrev pub sized_spelling : (size interval jitter base : ℕ) → List ℕ
sized_spelling size interval jitter base = to_be_bytes w16 size ++ to_be_bytes w32 interval ++ to_be_bytes w32 jitter ++ to_be_bytes w64 base

-- what follows the kind's byte
abbrev pub kind_fields : FlowKind → List ℕ
kind_fields (BestEffort priority) = priority ∷ []
kind_fields (Ugs size interval jitter base) = sized_spelling size interval jitter base
kind_fields (Poll interval jitter base) = to_be_bytes w32 interval ++ to_be_bytes w32 jitter ++ to_be_bytes w64 base
kind_fields (Station size interval jitter base) = sized_spelling size interval jitter base
kind_fields (Initial size interval jitter base) = sized_spelling size interval jitter base

abbrev pub kind_spelling : FlowKind → List ℕ
kind_spelling kind = kind_byte kind ∷ kind_fields kind

-- what follows the first byte of a flow, up to its kind
abbrev pub flow_spelling : (ch modem tag : ℕ) → List ℕ
flow_spelling ch modem tag = ch ∷ to_be_bytes w32 modem ++ to_be_bytes w32 tag

-- the PHY of a change
abbrev pub changed_phy : Phy → ℕ
changed_phy Tdma = 0
changed_phy Advanced = 1

-- what follows the channel of a change
abbrev pub settings_spelling : ChannelSettings → List ℕ
settings_spelling s =
    s.ucd ∷ changed_phy s.phy ∷ to_be_bytes w16 s.short_max
    ++ s.ranging_backoff.0 ∷ s.ranging_backoff.1 ∷ s.data_backoff.0 ∷ s.data_backoff.1 ∷ []

-- a cut that keeps nothing and tells the channel's back-offs has no settings of its own
abbrev pub is_plain : (keep : ℕ) → (ranging sending : ℕ × ℕ) → Bool
is_plain keep ranging sending = (keep == 0) && (ranging.0 == 255) && (ranging.1 == 255) && (sending.0 == 255) && (sending.1 == 255)

-- the first byte of a cut tells whether it has some, and they stand at its end
abbrev pub cut_byte : Bool → ℕ
cut_byte plain = if plain then 5 else 9

abbrev pub cut_settings_spelling : Bool → (keep : ℕ) → (ranging sending : ℕ × ℕ) → List ℕ
cut_settings_spelling plain keep ranging sending =
    if plain then [] else to_be_bytes w16 keep ++ ranging.0 ∷ ranging.1 ∷ sending.0 ∷ sending.1 ∷ []

-- what follows the first byte of a cut, up to its settings
abbrev pub cut_spelling : (ch len not_before ack : ℕ) → List ℕ
cut_spelling ch len not_before ack = ch ∷ to_be_bytes w16 len ++ to_be_bytes w64 not_before ++ to_be_bytes w64 ack

-- the bytes of a command; the last minislot of a flow's lease is written where it isn't the last time of all
abbrev pub spelling : Command → List ℕ
spelling commands.Noop = 0 ∷ []
spelling (commands.Channel c) = phy_byte c.phy ∷ channel_spelling c
spelling (commands.Change ch s) = 10 ∷ ch ∷ settings_spelling s
spelling (commands.Flow ch modem tag last kind) =
    if last == last_time then 2 ∷ flow_spelling ch modem tag ++ kind_spelling kind
    else 7 ∷ flow_spelling ch modem tag ++ to_be_bytes w64 last ++ kind_spelling kind
spelling (commands.Drop ch sid) = 3 ∷ ch ∷ to_be_bytes w16 sid
spelling (commands.Request ch sid n sent) = 4 ∷ ch ∷ to_be_bytes w16 sid ++ to_be_bytes w16 n ++ to_be_bytes w64 sent
spelling (commands.Cut ch len not_before ack keep ranging sending) =
    cut_byte (is_plain keep ranging sending) ∷ cut_spelling ch len not_before ack ++ cut_settings_spelling (is_plain keep ranging sending) keep ranging sending

-- the bytes spell the command
abbrev pub Spells : List ℕ → Command → Type 0
Spells bytes c = FitsCommand c × (bytes ≡ spelling c)

-- the bytes spell no command
abbrev pub SpellsNone : List ℕ → Type 0
SpellsNone bytes = (c : Command) → ¬ Spells bytes c
