-- Tables under the ids of their channels, and the rows that they are.
use Rattle.std.proofs.Common.{◌≡◌, ℕ, [], ◌∷◌, ◌++◌, Option, Some, None, refl, sym, ap, subst, ◌∙◌, nat_eq, is_some}
use Rattle.std.proofs.Common.{not, if◌then◌else◌}
use Rattle.std.specs.Prelude.{OnOk, IfErr, Result, Ok, Err}
use Rattle.std.specs.List.{IsDistinct}
use Rattle.flow_state.specs.declared.refusal.Refusal.{Refusal}
use Rattle.flow_state.specs.declared.refusal.Refusal.TheVariants.{NoChannel, ChannelThere, BadValue}
use Rattle.flow_state.specs.Refusals.{on_table, set_channel_refusal}
use Rattle.flow_state.specs.declared.channel.Channel.{Channel}
use Rattle.flow_state.specs.Limits.{is_good_channel}
use Rattle.std.specs.Option.{option_map, option_map_or}
use Rattle.std.specs.Map.{set_value, lookup, keys_of}
use Rattle.flow_state.specs.Rows.{Rows, Table, table_of, change_table}
use Rattle.flow_state.specs.Entries.{Entries, rows_of, AreIds, change_entry, on_entry, entry_refusal}
use Rattle.flow_state.proofs.Keyed.{All-set_value, seen_found, seen_written, seen_absent}

abbrev id : Table → ℕ
id t = t.row.channel.id

same_map : (o : Option Table) → option_map (λ t. t) o ≡ o
same_map (Some t) = refl
same_map None = refl

pub table_found : (es : Entries) (ch : ℕ) → AreIds es → table_of (rows_of es) ch ≡ lookup (nat_eq ch) es
table_found es ch ids = seen_found (λ (t : Table). t) id es ch ids ∙ same_map (lookup (nat_eq ch) es)

-- the rows after the channel's table is changed
pub rows_changed : (es : Entries) (ch : ℕ) (change : Table → Table) → AreIds es → IsDistinct nat_eq (keys_of es) → rows_of (change_entry es ch change) ≡ change_table (rows_of es) ch change
rows_changed es ch change ids apart = by (lookup (nat_eq ch) es) refl
  where
    by : (o : Option Table) → lookup (nat_eq ch) es ≡ o → rows_of (option_map_or (λ t. set_value (nat_eq ch) es (change t)) o es) ≡ change_table (rows_of es) ch change
    by (Some t) e = seen_written (λ (u : Table). u) id es ch t (change t) change ids apart e refl
    by None e = sym (seen_absent (λ (u : Table). u) id es ch change ids e)

-- ids stay where a change keeps the channel
pub ids_changed : (es : Entries) (ch : ℕ) (change : Table → Table) → AreIds es → ((t : Table) → (change t).row.channel.id ≡ t.row.channel.id) → AreIds (change_entry es ch change)
ids_changed es ch change ids keeps = by (lookup (nat_eq ch) es) refl
  where
    by : (o : Option Table) → lookup (nat_eq ch) es ≡ o → AreIds (option_map_or (λ t. set_value (nat_eq ch) es (change t)) o es)
    by (Some t) e = All-set_value (λ x. x.1.row.channel.id ≡ x.0) es ch t (change t) ids e (λ k h. keeps t ∙ h)
    by None e = ids

-- the added entry is the added row
pub ids_more : (es : Entries) (e : ℕ × Table) → AreIds es → e.1.row.channel.id ≡ e.0 → AreIds (es ++ e ∷ [])
ids_more [] e ids is = (is, tt)
ids_more (x ∷ es) e ids is = (ids.0, ids_more es e ids.1 is)

-- a call's refusal leaves the entries, and its success changes a table that keeps its channel
pub ids_after : {T : Type 0} (P : Type 0) (Q : Refusal → Type 0) (r : Result T Refusal) (es fs : Entries) (ch : ℕ) (change : Table → Table) → AreIds es → ((t : Table) → (change t).row.channel.id ≡ t.row.channel.id)
    → OnOk r (P × (fs ≡ change_entry es ch change)) → IfErr r (λ e. Q e × (fs ≡ es)) → AreIds fs
ids_after P Q (Ok x) es fs ch change ids keeps ok err = subst AreIds (sym ok.1) (ids_changed es ch change ids keeps)
ids_after P Q (Err e) es fs ch change ids keeps ok err = subst AreIds (sym err.1) ids

module _ (es : Entries) (now : Rows) (ch : ℕ) (ids : AreIds es) (apart : IsDistinct nat_eq (keys_of es)) (view : rows_of es ≡ now) where
  pub table_at : lookup (nat_eq ch) es ≡ table_of now ch
  table_at = sym (table_found es ch ids) ∙ ap (λ (r : Rows). table_of r ch) view

  pub refusal_at : (first : Table → Option Refusal) → on_entry es ch first ≡ on_table now ch first
  refusal_at first = ap (λ (o : Option Table). option_map_or first o (Some NoChannel)) table_at

  pub rows_at : (change : Table → Table) → rows_of (change_entry es ch change) ≡ change_table now ch change
  rows_at change = rows_changed es ch change ids apart ∙ ap (λ (r : Rows). change_table r ch change) view

  -- the refusal of a channel that is to be set
  pub channel_refusal_at : (c : Channel) → c.id ≡ ch → entry_refusal es c ≡ set_channel_refusal now c
  channel_refusal_at c same =
      ap (λ i. if not (is_good_channel c) then Some BadValue else if is_some (lookup (nat_eq i) es) then Some ChannelThere else None) same
      ∙ ap (λ (o : Option Table). if not (is_good_channel c) then Some BadValue else if is_some o then Some ChannelThere else None) table_at
      ∙ ap (λ i. if not (is_good_channel c) then Some BadValue else if is_some (table_of now i) then Some ChannelThere else None) (sym same)
