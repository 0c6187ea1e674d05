-- What a command's bytes spell is that command.
use Rattle.std.proofs.Common.{◌≡◌, ℕ, ◌<◌, ◌^◌, ◌==◌, Bool, true, false, cond, List, [], ◌∷◌, ◌++◌, Option, Some, None}
use Rattle.std.proofs.Common.{refl, sym, ap, ◌∙◌}
use Rattle.std.specs.Option.{option_map}
use Rattle.std.specs.Int.{w16, w64, to_be_bytes}
use Rattle.std.proofs.lemmas.Bool.{eqb-true, and_parts}
use Rattle.std.proofs.lemmas.Nat.{from_be_bytes-to_be_bytes_2, from_be_bytes-to_be_bytes_4, from_be_bytes-to_be_bytes_8}
use Rattle.flow_state.specs.declared.channel.Channel.{Channel}
use Rattle.flow_state.specs.declared.channel.Phy.{Phy}
use Rattle.flow_state.specs.declared.channel.Phy.TheVariants.{Tdma, Advanced}
use Rattle.flow_state.specs.declared.settings.ChannelSettings.{ChannelSettings}
use Rattle.flow_state.specs.declared.flow.FlowKind.{FlowKind}
use Rattle.flow_state.specs.declared.flow.FlowKind.TheVariants.{BestEffort, Ugs, Poll, Station, Initial}
use Rattle.flow_state.specs.Limits.{last_time}
use Rattle.grant_machine.specs.declared.command.Command.{Command}
use Rattle.grant_machine.specs.declared.command.Command.TheVariants as commands
use Rattle.grant_machine.specs.Fits.{FitsChannel, FitsSettings, FitsKind, FitsCommand}
use Rattle.command_log.specs.Spelling.{phy_byte, changed_phy, channel_spelling, settings_spelling, flow_spelling}
use Rattle.command_log.specs.Spelling.{sized_spelling, kind_spelling, spelling, is_plain, cut_byte}
use Rattle.command_log.specs.Spelling.{cut_settings_spelling, cut_spelling}
use Rattle.command_log.specs.Reading.{channel_in, settings_in, sized_in, kind_in, flow_in, flow_command_in, command_in}

-- a channel's fields are read as they were spelled, whatever byte stands before them
fields_read : (phy : Phy) (first : ℕ) (c : Channel) → c.phy ≡ phy → FitsChannel c → channel_in phy (first ∷ channel_spelling c) ≡ c
fields_read phy first c is fits i = record {
  id = c.id;
  ucd = c.ucd;
  phy = sym is i;
  short_max = from_be_bytes-to_be_bytes_2 c.short_max fits.short_max i;
  ranging_backoff = c.ranging_backoff;
  data_backoff = c.data_backoff;
  base = from_be_bytes-to_be_bytes_8 c.base fits.base i;
}

-- the first byte tells the channel's PHY
channel_read : (phy : Phy) (c : Channel) → c.phy ≡ phy → FitsChannel c → command_in (spelling (commands.Channel c)) ≡ Some (commands.Channel c)
channel_read Tdma c is fits = ap (λ (phy : Phy). command_in (phy_byte phy ∷ channel_spelling c)) is ∙ ap (λ (d : Channel). Some (commands.Channel d)) (fields_read Tdma 1 c is fits)
channel_read Advanced c is fits = ap (λ (phy : Phy). command_in (phy_byte phy ∷ channel_spelling c)) is ∙ ap (λ (d : Channel). Some (commands.Channel d)) (fields_read Advanced 6 c is fits)

-- and so are a change's, whatever bytes stand before them
settings_read : (phy : Phy) (first ch : ℕ) (s : ChannelSettings) → s.phy ≡ phy → FitsSettings s → settings_in phy (first ∷ ch ∷ settings_spelling s) ≡ s
settings_read phy first ch s is fits i = record {
  ucd = s.ucd;
  phy = sym is i;
  short_max = from_be_bytes-to_be_bytes_2 s.short_max fits.short_max i;
  ranging_backoff = s.ranging_backoff;
  data_backoff = s.data_backoff;
}

-- the change with this PHY's byte
abbrev spelled_to : Phy → ℕ → ChannelSettings → List ℕ
spelled_to phy ch s = 10 ∷ ch ∷ s.ucd ∷ changed_phy phy ∷ to_be_bytes w16 s.short_max ++ s.ranging_backoff.0 ∷ s.ranging_backoff.1 ∷ s.data_backoff.0 ∷ s.data_backoff.1 ∷ []

change_read : (phy : Phy) (ch : ℕ) (s : ChannelSettings) → s.phy ≡ phy → FitsSettings s → command_in (spelling (commands.Change ch s)) ≡ Some (commands.Change ch s)
change_read Tdma ch s is fits = ap (λ (phy : Phy). command_in (spelled_to phy ch s)) is ∙ ap (λ (d : ChannelSettings). Some (commands.Change ch d)) (settings_read Tdma 10 ch s is fits)
change_read Advanced ch s is fits = ap (λ (phy : Phy). command_in (spelled_to phy ch s)) is ∙ ap (λ (d : ChannelSettings). Some (commands.Change ch d)) (settings_read Advanced 10 ch s is fits)

-- a kind with a size is read as it was spelled, whatever its byte
sized_read : (first size interval jitter base : ℕ) (kind : (size interval jitter base : ℕ) → FlowKind) → size < 2 ^ 16 → interval < 2 ^ 32 → jitter < 2 ^ 32 → base < 2 ^ 64
    → sized_in (first ∷ sized_spelling size interval jitter base) kind ≡ kind size interval jitter base
sized_read first size interval jitter base kind size_fits interval_fits jitter_fits base_fits i =
    kind (from_be_bytes-to_be_bytes_2 size size_fits i) (from_be_bytes-to_be_bytes_4 interval interval_fits i) (from_be_bytes-to_be_bytes_4 jitter jitter_fits i) (from_be_bytes-to_be_bytes_8 base base_fits i)

kind_read : (kind : FlowKind) → FitsKind kind → kind_in (kind_spelling kind) ≡ Some kind
kind_read (BestEffort priority) fits = refl
kind_read (Ugs size interval jitter base) fits = ap (λ (k : FlowKind). Some k) (sized_read 1 size interval jitter base Ugs fits.0 fits.1 fits.2 fits.3)
kind_read (Poll interval jitter base) fits =
    λ i. Some (Poll (from_be_bytes-to_be_bytes_4 interval fits.0 i) (from_be_bytes-to_be_bytes_4 jitter fits.1 i) (from_be_bytes-to_be_bytes_8 base fits.2 i))
kind_read (Station size interval jitter base) fits = ap (λ (k : FlowKind). Some k) (sized_read 3 size interval jitter base Station fits.0 fits.1 fits.2 fits.3)
kind_read (Initial size interval jitter base) fits = ap (λ (k : FlowKind). Some k) (sized_read 4 size interval jitter base Initial fits.0 fits.1 fits.2 fits.3)

module _ (ch modem tag : ℕ) (kind : FlowKind) (modem_fits : modem < 2 ^ 32) (tag_fits : tag < 2 ^ 32) (kind_fits : FitsKind kind) where
  abbrev endless : List ℕ
  endless = 2 ∷ flow_spelling ch modem tag ++ kind_spelling kind

  abbrev leased : ℕ → List ℕ
  leased last = 7 ∷ flow_spelling ch modem tag ++ to_be_bytes w64 last ++ kind_spelling kind

  endless_read : command_in endless ≡ Some (commands.Flow ch modem tag last_time kind)
  endless_read =
      ap (λ (o : Option FlowKind). option_map (flow_in endless last_time) o) (kind_read kind kind_fits)
      ∙ (λ i. Some (commands.Flow ch (from_be_bytes-to_be_bytes_4 modem modem_fits i) (from_be_bytes-to_be_bytes_4 tag tag_fits i) last_time kind))

  leased_read : (last : ℕ) → last < 2 ^ 64 → (last == last_time) ≡ false → command_in (leased last) ≡ Some (commands.Flow ch modem tag last kind)
  leased_read last fits other =
      ap (λ (n : ℕ). cond (n == last_time) None (flow_command_in (leased last) n 18)) (from_be_bytes-to_be_bytes_8 last fits)
      ∙ ap (λ (b : Bool). cond b None (flow_command_in (leased last) last 18)) other
      ∙ ap (λ (o : Option FlowKind). option_map (flow_in (leased last) last) o) (kind_read kind kind_fits)
      ∙ (λ i. Some (commands.Flow ch (from_be_bytes-to_be_bytes_4 modem modem_fits i) (from_be_bytes-to_be_bytes_4 tag tag_fits i) last kind))

  -- the last minislot is written where it isn't the last time of all
  flow_read : (last : ℕ) → last < 2 ^ 64 → command_in (spelling (commands.Flow ch modem tag last kind)) ≡ Some (commands.Flow ch modem tag last kind)
  flow_read last fits = by (last == last_time) refl
    where
      by : (b : Bool) → (last == last_time) ≡ b → command_in (cond b endless (leased last)) ≡ Some (commands.Flow ch modem tag last kind)
      by true same = endless_read ∙ ap (λ (n : ℕ). Some (commands.Flow ch modem tag n kind)) (sym (eqb-true last last_time same))
      by false other = leased_read last fits other

-- a cut is read back, whether it has settings of its own or none
module _ (ch len not_before ack keep : ℕ) (ranging sending : ℕ × ℕ) (len_fits : len < 2 ^ 16) (begin_fits : not_before < 2 ^ 64) (ack_fits : ack < 2 ^ 64) (keep_fits : keep < 2 ^ 16) where
  abbrev cut_bytes : Bool → List ℕ
  cut_bytes plain = cut_byte plain ∷ cut_spelling ch len not_before ack ++ cut_settings_spelling plain keep ranging sending

  -- with none it keeps nothing, and tells the channel's back-offs
  plain_is : is_plain keep ranging sending ≡ true → commands.Cut ch len not_before ack 0 (255, 255) (255, 255) ≡ commands.Cut ch len not_before ack keep ranging sending
  plain_is e =
      let four = and_parts _ _ e in
      let three = and_parts _ _ four.0 in
      let two = and_parts _ _ three.0 in
      let one = and_parts _ _ two.0 in
      let kept : keep ≡ 0 = eqb-true keep 0 one.0 in
      let ranging_start : ranging.0 ≡ 255 = eqb-true ranging.0 255 one.1 in
      let ranging_end : ranging.1 ≡ 255 = eqb-true ranging.1 255 two.1 in
      let sending_start : sending.0 ≡ 255 = eqb-true sending.0 255 three.1 in
      let sending_end : sending.1 ≡ 255 = eqb-true sending.1 255 four.1 in
      sym (λ i. commands.Cut ch len not_before ack (kept i) (ranging_start i, ranging_end i) (sending_start i, sending_end i))

  cut_read : command_in (spelling (commands.Cut ch len not_before ack keep ranging sending)) ≡ Some (commands.Cut ch len not_before ack keep ranging sending)
  cut_read = by (is_plain keep ranging sending) refl
    where
      by : (plain : Bool) → is_plain keep ranging sending ≡ plain → command_in (cut_bytes plain) ≡ Some (commands.Cut ch len not_before ack keep ranging sending)
      by true e =
          (λ i. Some (commands.Cut ch (from_be_bytes-to_be_bytes_2 len len_fits i) (from_be_bytes-to_be_bytes_8 not_before begin_fits i) (from_be_bytes-to_be_bytes_8 ack ack_fits i) 0 (255, 255) (255, 255)))
          ∙ ap (λ (c : Command). Some c) (plain_is e)
      by false e =
          (λ i. cond (is_plain (from_be_bytes-to_be_bytes_2 keep keep_fits i) ranging sending) None (Some (commands.Cut ch (from_be_bytes-to_be_bytes_2 len len_fits i) (from_be_bytes-to_be_bytes_8 not_before begin_fits i)
          (from_be_bytes-to_be_bytes_8 ack ack_fits i) (from_be_bytes-to_be_bytes_2 keep keep_fits i) ranging sending)))
          ∙ ap (λ (b : Bool). cond b None (Some (commands.Cut ch len not_before ack keep ranging sending))) e

pub read_back : (c : Command) → FitsCommand c → command_in (spelling c) ≡ Some c
read_back commands.Noop fits = refl
read_back (commands.Channel c) fits = channel_read c.phy c refl fits
read_back (commands.Change ch s) fits = change_read s.phy ch s refl fits.1
read_back (commands.Flow ch modem tag last kind) fits = flow_read ch modem tag kind fits.1 fits.2 fits.4 last fits.3
read_back (commands.Drop ch sid) fits = λ i. Some (commands.Drop ch (from_be_bytes-to_be_bytes_2 sid fits.1 i))
read_back (commands.Request ch sid n sent) fits =
    λ i. Some (commands.Request ch (from_be_bytes-to_be_bytes_2 sid fits.1 i) (from_be_bytes-to_be_bytes_2 n fits.2 i) (from_be_bytes-to_be_bytes_8 sent fits.3 i))
read_back (commands.Cut ch len not_before ack keep ranging sending) fits = cut_read ch len not_before ack keep ranging sending fits.1 fits.2 fits.3 fits.4
