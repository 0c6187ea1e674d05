-- Tables under the ids of their channels.
use Rattle.std.specs.Prelude.{◌≡◌, ℕ, nat_eq, not, is_some, if◌then◌else◌, List, map, Option, Some, None}
use Rattle.std.specs.List.{AllByRecursion}
use Rattle.std.specs.Map.{lookup, set_value}
use Rattle.std.specs.Option.{option_map_or}
use Rattle.flow_state.specs.declared.refusal.Refusal.{Refusal}
use Rattle.flow_state.specs.declared.refusal.Refusal.TheVariants.{NoChannel, ChannelThere, BadValue}
use Rattle.flow_state.specs.declared.channel.Channel.{Channel}
use Rattle.flow_state.specs.Limits.{is_good_channel}
use Rattle.flow_state.specs.Rows.{Rows, Table}

-- in the order in which channels were set
abbrev pub Entries : Type 0
Entries = List (ℕ × Table)

abbrev pub rows_of : Entries → Rows
rows_of es = map (λ e. e.1) es

-- each table stands under its channel's id
abbrev pub AreIds : Entries → Type 0
AreIds es = AllByRecursion (λ e. e.1.row.channel.id ≡ e.0) es

-- the entries with the channel's table changed, where it is there
abbrev pub change_entry : Entries → ℕ → (Table → Table) → Entries
change_entry es ch change = option_map_or (λ t. set_value (nat_eq ch) es (change t)) (lookup (nat_eq ch) es) es

-- the refusal of a call on the channel's table, NoChannel where it isn't there
abbrev pub on_entry : Entries → ℕ → (Table → Option Refusal) → Option Refusal
on_entry es ch refusal = option_map_or refusal (lookup (nat_eq ch) es) (Some NoChannel)

-- the refusal of a channel that is to be set
abbrev pub entry_refusal : Entries → Channel → Option Refusal
entry_refusal es c =
    if not (is_good_channel c) then Some BadValue
    else if is_some (lookup (nat_eq c.id) es) then Some ChannelThere
    else None
