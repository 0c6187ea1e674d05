-- Bytes that have the form of a command spell it, and other bytes spell none.
use Rattle.std.proofs.Common.{◌≡◌, ℕ, ◌<◌, ◌==◌, Bool, true, false, cond, List, [], ◌∷◌, ◌++◌, length, drop, Option}
use Rattle.std.proofs.Common.{Some, None, refl, sym, ap, ◌∙◌, arith}
use Rattle.std.specs.Option.{IfSome, MatchOption, option_map}
use Rattle.std.specs.Int.{w16, w32, w64, to_be_bytes}
use Rattle.std.proofs.lemmas.Bool.{eqb-true, ne_eqb, and_parts}
use Rattle.flow_state.specs.declared.channel.Phy.{Phy}
use Rattle.flow_state.specs.declared.channel.Phy.TheVariants.{Tdma, Advanced}
use Rattle.std.proofs.lemmas.List.{length-drop}
use Rattle.flow_state.specs.declared.flow.FlowKind.{FlowKind}
use Rattle.flow_state.specs.declared.flow.FlowKind.TheVariants.{BestEffort, Ugs, Poll, Station, Initial}
use Rattle.flow_state.specs.Limits.{last_time}
use Rattle.grant_machine.specs.declared.command.Command.TheVariants as commands
use Rattle.grant_machine.specs.Fits.{FitsKind}
use Rattle.command_log.specs.Spelling.{phy_byte, changed_phy, flow_spelling, sized_spelling, kind_spelling, Spells}
use Rattle.command_log.specs.Spelling.{SpellsNone, is_plain, cut_byte, cut_settings_spelling, cut_spelling}
use Rattle.command_log.specs.Reading.{AreBytes, byte, number, is_form, channel_in, settings_in, change_in, sized_in}
use Rattle.command_log.specs.Reading.{kind_in, flow_in, flow_command_in, leased_flow_in, command_in, cut_in, set_cut_in}
use Rattle.command_log.proofs.Spelled.{read_back}
use Rattle.command_log.proofs.Fields.{are_drop, number_fits_2, number_fits_4, number_fits_8, field_1, field_2, field_4}
use Rattle.command_log.proofs.Fields.{field_8, at_end}

module _ (bytes : List ℕ) (are : AreBytes bytes) where
  -- the first byte, which is known, and the rest
  first : (n : ℕ) (rest : List ℕ) → byte bytes 0 ≡ n → 0 < length bytes → drop 1 bytes ≡ rest → bytes ≡ n ∷ rest
  first n rest is lt then = field_1 bytes are 0 rest lt then ∙ ap (λ (b : ℕ). b ∷ rest) is

  noop_spelled : byte bytes 0 ≡ 0 → length bytes ≡ 1 → Spells bytes commands.Noop
  noop_spelled tag len = (tt, first 0 _ tag (omega arith) (at_end bytes are 1 len))

  channel_spelled : (phy : Phy) → byte bytes 0 ≡ phy_byte phy → length bytes ≡ 17 → Spells bytes (commands.Channel (channel_in phy bytes))
  channel_spelled phy tag len = (
    record { id = are 1; ucd = are 2; short_max = number_fits_2 bytes are 3; ranging_start = are 5; ranging_end = are 6; data_start = are 7; data_end = are 8; base = number_fits_8 bytes are 9 },
    first (phy_byte phy) _ tag (omega arith) (field_1 bytes are 1 _ (omega arith) (field_1 bytes are 2 _ (omega arith) (field_2 bytes are 3 5 _ refl (omega arith)
        (field_1 bytes are 5 _ (omega arith) (field_1 bytes are 6 _ (omega arith) (field_1 bytes are 7 _ (omega arith) (field_1 bytes are 8 _ (omega arith)
        (field_8 bytes are 9 17 _ refl (omega arith) (at_end bytes are 17 len))))))))),
  )

  change_spelled : (phy : Phy) → byte bytes 0 ≡ 10 → byte bytes 3 ≡ changed_phy phy → length bytes ≡ 10 → Spells bytes (commands.Change (byte bytes 1) (settings_in phy bytes))
  change_spelled phy tag kind len = (
    (are 1, record { ucd = are 2; short_max = number_fits_2 bytes are 4; ranging_start = are 6; ranging_end = are 7; data_start = are 8; data_end = are 9 }),
    first 10 _ tag (omega arith) (field_1 bytes are 1 _ (omega arith) (field_1 bytes are 2 _ (omega arith)
        (field_1 bytes are 3 _ (omega arith) (field_2 bytes are 4 6 _ refl (omega arith) (field_1 bytes are 6 _ (omega arith) (field_1 bytes are 7 _ (omega arith) (field_1 bytes are 8 _ (omega arith)
        (field_1 bytes are 9 _ (omega arith) (at_end bytes are 10 len)))))) ∙ ap (λ (b : ℕ). b ∷ to_be_bytes w16 (number w16 bytes 4) ++ byte bytes 6 ∷ byte bytes 7 ∷ byte bytes 8 ∷ byte bytes 9 ∷ []) kind))),
  )

  changes_spelled : byte bytes 0 ≡ 10 → length bytes ≡ 10 → IfSome (change_in bytes) (Spells bytes)
  changes_spelled tag len = by (byte bytes 3 == 0) refl (byte bytes 3 == 1) refl
    where
      by : (a : Bool) → (byte bytes 3 == 0) ≡ a → (b : Bool) → (byte bytes 3 == 1) ≡ b
          → IfSome (cond a (Some (commands.Change (byte bytes 1) (settings_in Tdma bytes))) (cond b (Some (commands.Change (byte bytes 1) (settings_in Advanced bytes))) None)) (Spells bytes)
      by true tdma b _ = change_spelled Tdma tag (eqb-true (byte bytes 3) 0 tdma) len
      by false _ true advanced = change_spelled Advanced tag (eqb-true (byte bytes 3) 1 advanced) len
      by false _ false _ = tt

  drop_spelled : byte bytes 0 ≡ 3 → length bytes ≡ 4 → Spells bytes (commands.Drop (byte bytes 1) (number w16 bytes 2))
  drop_spelled tag len = (
    (are 1, number_fits_2 bytes are 2),
    first 3 _ tag (omega arith) (field_1 bytes are 1 _ (omega arith) (field_2 bytes are 2 4 _ refl (omega arith) (at_end bytes are 4 len))),
  )

  request_spelled : byte bytes 0 ≡ 4 → length bytes ≡ 14 → Spells bytes (commands.Request (byte bytes 1) (number w16 bytes 2) (number w16 bytes 4) (number w64 bytes 6))
  request_spelled tag len = (
    (are 1, number_fits_2 bytes are 2, number_fits_2 bytes are 4, number_fits_8 bytes are 6),
    first 4 _ tag (omega arith) (field_1 bytes are 1 _ (omega arith) (field_2 bytes are 2 4 _ refl (omega arith) (field_2 bytes are 4 6 _ refl (omega arith)
        (field_8 bytes are 6 14 _ refl (omega arith) (at_end bytes are 14 len))))),
  )

  cut_spelled : byte bytes 0 ≡ 5 → length bytes ≡ 20 → Spells bytes (cut_in bytes 0 (255, 255) (255, 255))
  cut_spelled tag len = (
    (are 1, number_fits_2 bytes are 2, number_fits_8 bytes are 4, number_fits_8 bytes are 12, omega arith, omega arith, omega arith, omega arith, omega arith),
    first 5 _ tag (omega arith) (field_1 bytes are 1 _ (omega arith) (field_2 bytes are 2 4 _ refl (omega arith) (field_8 bytes are 4 12 _ refl (omega arith)
        (field_8 bytes are 12 20 _ refl (omega arith) (at_end bytes are 20 len))))),
  )

  set_cut_spelled : byte bytes 0 ≡ 9 → length bytes ≡ 26 → IfSome (set_cut_in bytes) (Spells bytes)
  set_cut_spelled tag len = by (is_plain keep ranging sending) refl
    where
      keep : ℕ
      keep = number w16 bytes 20

      ranging : ℕ × ℕ
      ranging = (byte bytes 22, byte bytes 23)

      sending : ℕ × ℕ
      sending = (byte bytes 24, byte bytes 25)

      cut_bytes : Bool → List ℕ
      cut_bytes plain = cut_byte plain ∷ cut_spelling (byte bytes 1) (number w16 bytes 2) (number w64 bytes 4) (number w64 bytes 12) ++ cut_settings_spelling plain keep ranging sending

      by : (plain : Bool) → is_plain keep ranging sending ≡ plain → IfSome (cond plain None (Some (cut_in bytes keep ranging sending))) (Spells bytes)
      by true e = tt
      by false e =
          let whole : bytes ≡ cut_bytes false = first 9 _ tag (omega arith) (field_1 bytes are 1 _ (omega arith) (field_2 bytes are 2 4 _ refl (omega arith) (field_8 bytes are 4 12 _ refl (omega arith)
          (field_8 bytes are 12 20 _ refl (omega arith) (field_2 bytes are 20 22 _ refl (omega arith) (field_1 bytes are 22 _ (omega arith) (field_1 bytes are 23 _ (omega arith)
          (field_1 bytes are 24 _ (omega arith) (field_1 bytes are 25 _ (omega arith) (at_end bytes are 26 len)))))))))) in (
            (are 1, number_fits_2 bytes are 2, number_fits_8 bytes are 4, number_fits_8 bytes are 12, number_fits_2 bytes are 20, are 22, are 23, are 24, are 25),
            whole ∙ ap cut_bytes (sym e),
          )

-- bytes that have the form of a kind spell it
abbrev AreKind : List ℕ → FlowKind → Type 0
AreKind bytes kind = FitsKind kind × (bytes ≡ kind_spelling kind)

module _ (bytes : List ℕ) (are : AreBytes bytes) where
  best_effort_spelled : byte bytes 0 ≡ 0 → length bytes ≡ 2 → AreKind bytes (BestEffort (byte bytes 1))
  best_effort_spelled tag len = (are 1, first bytes are 0 _ tag (omega arith) (field_1 bytes are 1 _ (omega arith) (at_end bytes are 2 len)))

  -- the fields of a kind with a size fit, and with the kind's byte they are all
  sized_fits : FitsKind (sized_in bytes Ugs)
  sized_fits = (number_fits_2 bytes are 1, number_fits_4 bytes are 3, number_fits_4 bytes are 7, number_fits_8 bytes are 11)

  sized_is : (tag : ℕ) → byte bytes 0 ≡ tag → length bytes ≡ 19 → bytes ≡ tag ∷ sized_spelling (number w16 bytes 1) (number w32 bytes 3) (number w32 bytes 7) (number w64 bytes 11)
  sized_is tag is len =
      first bytes are tag _ is (omega arith) (field_2 bytes are 1 3 _ refl (omega arith) (field_4 bytes are 3 7 _ refl (omega arith) (field_4 bytes are 7 11 _ refl (omega arith)
      (field_8 bytes are 11 19 _ refl (omega arith) (at_end bytes are 19 len)))))

  ugs_spelled : byte bytes 0 ≡ 1 → length bytes ≡ 19 → AreKind bytes (sized_in bytes Ugs)
  ugs_spelled tag len = (sized_fits, sized_is 1 tag len)

  station_spelled : byte bytes 0 ≡ 3 → length bytes ≡ 19 → AreKind bytes (sized_in bytes Station)
  station_spelled tag len = (sized_fits, sized_is 3 tag len)

  initial_spelled : byte bytes 0 ≡ 4 → length bytes ≡ 19 → AreKind bytes (sized_in bytes Initial)
  initial_spelled tag len = (sized_fits, sized_is 4 tag len)

  poll_spelled : byte bytes 0 ≡ 2 → length bytes ≡ 17 → AreKind bytes (Poll (number w32 bytes 1) (number w32 bytes 5) (number w64 bytes 9))
  poll_spelled tag len = (
    (number_fits_4 bytes are 1, number_fits_4 bytes are 5, number_fits_8 bytes are 9),
    first bytes are 2 _ tag (omega arith) (field_4 bytes are 1 5 _ refl (omega arith) (field_4 bytes are 5 9 _ refl (omega arith)
        (field_8 bytes are 9 17 _ refl (omega arith) (at_end bytes are 17 len)))),
  )

form_is : (bytes : List ℕ) (tag len : ℕ) → is_form bytes tag len ≡ true → (byte bytes 0 ≡ tag) × (length bytes ≡ len)
form_is bytes tag len h =
    let both = and_parts (byte bytes 0 == tag) (length bytes == len) h in
    (eqb-true (byte bytes 0) tag both.0, eqb-true (length bytes) len both.1)

-- one form after another
by_form : {A : Type 0} (P : A → Type 0) (b : Bool) (o rest : Option A) → (b ≡ true → IfSome o P) → IfSome rest P → IfSome (cond b o rest) P
by_form P true o rest here later = here refl
by_form P false o rest here later = later

kind_spelled : (bytes : List ℕ) → AreBytes bytes → IfSome (kind_in bytes) (AreKind bytes)
kind_spelled bytes are =
    by_form (AreKind bytes) (is_form bytes 0 2) _ _ (λ h. let f = form_is bytes 0 2 h in best_effort_spelled bytes are f.0 f.1)
    (by_form (AreKind bytes) (is_form bytes 1 19) _ _ (λ h. let f = form_is bytes 1 19 h in ugs_spelled bytes are f.0 f.1)
    (by_form (AreKind bytes) (is_form bytes 2 17) _ _ (λ h. let f = form_is bytes 2 17 h in poll_spelled bytes are f.0 f.1)
    (by_form (AreKind bytes) (is_form bytes 3 19) _ _ (λ h. let f = form_is bytes 3 19 h in station_spelled bytes are f.0 f.1)
    (by_form (AreKind bytes) (is_form bytes 4 19) _ None (λ h. let f = form_is bytes 4 19 h in initial_spelled bytes are f.0 f.1) tt))))

-- a kind that is read stands before the end
kind_within : (bytes : List ℕ) (place : ℕ) (kind : FlowKind) → drop place bytes ≡ kind_spelling kind → place < length bytes
kind_within bytes place kind is = omega (arith, ap length is, length-drop place bytes)

-- what a kind that is read from a place on makes
with_kind : (bytes : List ℕ) (last place : ℕ) → AreBytes bytes → ((kind : FlowKind) → AreKind (drop place bytes) kind → Spells bytes (flow_in bytes last kind)) → IfSome (flow_command_in bytes last place) (Spells bytes)
with_kind bytes last place are spelled =
    elim (kind_in (drop place bytes)) as (λ o. IfSome o (AreKind (drop place bytes)) → IfSome (option_map (flow_in bytes last) o) (Spells bytes)) [
      | None ↦ λ _. tt
      | Some kind ↦ λ is. spelled kind is
    ] (kind_spelled (drop place bytes) (are_drop place bytes are))

module _ (bytes : List ℕ) (are : AreBytes bytes) where
  -- the first byte is known, and what stands behind the channel, the modem and the tag
  flow_fields : (n : ℕ) (rest : List ℕ) → byte bytes 0 ≡ n → 10 < length bytes → drop 10 bytes ≡ rest → bytes ≡ n ∷ flow_spelling (byte bytes 1) (number w32 bytes 2) (number w32 bytes 6) ++ rest
  flow_fields n rest tag lt then =
      first bytes are n _ tag (omega arith) (field_1 bytes are 1 _ (omega arith) (field_4 bytes are 2 6 _ refl (omega arith) (field_4 bytes are 6 10 rest refl (omega arith) then)))

  endless_spelled : byte bytes 0 ≡ 2 → IfSome (flow_command_in bytes last_time 10) (Spells bytes)
  endless_spelled tag = with_kind bytes last_time 10 are (λ kind is. (
    (are 1, number_fits_4 bytes are 2, number_fits_4 bytes are 6, omega arith, is.0),
    flow_fields 2 (kind_spelling kind) tag (kind_within bytes 10 kind is.1) is.1,
  ))

  leased_spelled : byte bytes 0 ≡ 7 → IfSome (leased_flow_in bytes) (Spells bytes)
  leased_spelled tag = by (last == last_time) refl
    where
      last : ℕ
      last = number w64 bytes 10

      by : (b : Bool) → (last == last_time) ≡ b → IfSome (cond b None (flow_command_in bytes last 18)) (Spells bytes)
      by true same = tt
      by false other = with_kind bytes last 18 are (λ kind is.
          let head : List ℕ = flow_spelling (byte bytes 1) (number w32 bytes 2) (number w32 bytes 6) in
          let far : 18 < length bytes = kind_within bytes 18 kind is.1 in
          let whole : bytes ≡ 7 ∷ head ++ to_be_bytes w64 last ++ kind_spelling kind = flow_fields 7 _ tag (omega arith) (field_8 bytes are 10 18 _ refl (omega arith) is.1) in (
            (are 1, number_fits_4 bytes are 2, number_fits_4 bytes are 6, number_fits_8 bytes are 10, is.0),
            whole ∙ ap (λ (b : Bool). cond b (2 ∷ head ++ kind_spelling kind) (7 ∷ head ++ to_be_bytes w64 last ++ kind_spelling kind)) (sym other),
          ))

pub reads_spelled : (bytes : List ℕ) → AreBytes bytes → IfSome (command_in bytes) (Spells bytes)
reads_spelled bytes are =
    by_form (Spells bytes) (is_form bytes 0 1) _ _ (λ h. let f = form_is bytes 0 1 h in noop_spelled bytes are f.0 f.1)
    (by_form (Spells bytes) (is_form bytes 1 17) _ _ (λ h. let f = form_is bytes 1 17 h in channel_spelled bytes are Tdma f.0 f.1)
    (by_form (Spells bytes) (is_form bytes 6 17) _ _ (λ h. let f = form_is bytes 6 17 h in channel_spelled bytes are Advanced f.0 f.1)
    (by_form (Spells bytes) (is_form bytes 10 10) _ _ (λ h. let f = form_is bytes 10 10 h in changes_spelled bytes are f.0 f.1)
    (by_form (Spells bytes) (is_form bytes 3 4) _ _ (λ h. let f = form_is bytes 3 4 h in drop_spelled bytes are f.0 f.1)
    (by_form (Spells bytes) (is_form bytes 4 14) _ _ (λ h. let f = form_is bytes 4 14 h in request_spelled bytes are f.0 f.1)
    (by_form (Spells bytes) (is_form bytes 5 20) _ _ (λ h. let f = form_is bytes 5 20 h in cut_spelled bytes are f.0 f.1)
    (by_form (Spells bytes) (is_form bytes 9 26) _ _ (λ h. let f = form_is bytes 9 26 h in set_cut_spelled bytes are f.0 f.1)
    (by_form (Spells bytes) (byte bytes 0 == 2) _ _ (λ h. endless_spelled bytes are (eqb-true (byte bytes 0) 2 h))
    (by_form (Spells bytes) (byte bytes 0 == 7) _ None (λ h. leased_spelled bytes are (eqb-true (byte bytes 0) 7 h)) tt)))))))))

-- bytes that are read as no command spell none
pub spells_none : (bytes : List ℕ) → command_in bytes ≡ None → SpellsNone bytes
spells_none bytes none c spells =
    let read : command_in bytes ≡ Some c = ap command_in spells.1 ∙ read_back c spells.0 in
    absurd (cc (none, read))

pub reads_any : (bytes : List ℕ) → AreBytes bytes → MatchOption (command_in bytes) (SpellsNone bytes) (Spells bytes)
reads_any bytes are =
    elim (command_in bytes) as (λ o. command_in bytes ≡ o → IfSome o (Spells bytes) → MatchOption o (SpellsNone bytes) (Spells bytes)) [
      | None ↦ λ none _. spells_none bytes none
      | Some c ↦ λ _ spells. spells
    ] refl (reads_spelled bytes are)

-- bytes of another first byte haven't this form
no_form : (bytes : List ℕ) (tag len : ℕ) → (byte bytes 0 ≡ tag → ⊥) → is_form bytes tag len ≡ false
no_form bytes tag len other = rw (ne_eqb (byte bytes 0) tag other) refl

-- bytes that begin as no command does are none
pub no_command : (bytes : List ℕ) (b : ℕ) → byte bytes 0 ≡ b
    → (b ≡ 0 → ⊥) → (b ≡ 1 → ⊥) → (b ≡ 6 → ⊥) → (b ≡ 10 → ⊥) → (b ≡ 2 → ⊥) → (b ≡ 7 → ⊥) → (b ≡ 3 → ⊥) → (b ≡ 4 → ⊥) → (b ≡ 5 → ⊥) → (b ≡ 9 → ⊥) → command_in bytes ≡ None
no_command bytes b is noop tdma advanced change flow leased dropped request cut set_cut =
    let none = no_form bytes in
    rw (
      none 0 1 (λ e. noop (sym is ∙ e)),
      none 1 17 (λ e. tdma (sym is ∙ e)),
      none 6 17 (λ e. advanced (sym is ∙ e)),
      none 10 10 (λ e. change (sym is ∙ e)),
      none 3 4 (λ e. dropped (sym is ∙ e)),
      none 4 14 (λ e. request (sym is ∙ e)),
      none 5 20 (λ e. cut (sym is ∙ e)),
      none 9 26 (λ e. set_cut (sym is ∙ e)),
      ne_eqb (byte bytes 0) 2 (λ e. flow (sym is ∙ e)),
      ne_eqb (byte bytes 0) 7 (λ e. leased (sym is ∙ e)),
    ) refl
