-- The keys of a table that nothing reads, in the table's order.
use Rattle.std.specs.Prelude.{ℕ, Bool, not, ◌==◌, ◌&&◌, ◌||◌, if◌then◌else◌, List, [], ◌∷◌, ◌++◌, map, filter, Option}
use Rattle.std.specs.Prelude.{Some, None, codes, bytes_eq, string_bytes}
use Rattle.std.specs.List.{list_any, list_all}
use Rattle.std.specs.Char.{is_ascii_alphanumeric}
use Rattle.toml.specs.Data.{Data, table, Members, no_members, member, get}
use Rattle.text_faults.specs.declared.kind.Kind.{Kind}
use Rattle.text_faults.specs.declared.kind.Kind.TheVariants as kinds
use Rattle.text_faults.specs.declared.row.Choice.{Choice}
use Rattle.text_faults.specs.declared.fault.Place.{Place}
use Rattle.text_faults.specs.declared.fault.Place.TheVariants as places
use Rattle.text_faults.specs.declared.unread.Unread.{Unread}
use Rattle.text_faults.specs.Rows.{key_name, rows_of, choice_of}
use Rattle.text_faults.specs.Items.{items_at}
use Rattle.text_faults.specs.Faults.{chosen, offers, is_offer, may_except, numbered}
use Rattle.text_faults.specs.Texts.{head_text}

-- a table's place, its kind, and the text of a key in it
abbrev pub KeyThere : Type 0
KeyThere = Place × Kind × List ℕ

abbrev pub key_there : Unread → KeyThere
key_there u = (u.place, u.kind, string_bytes u.key)

-- the keys of a table
abbrev pub member_keys : Members → List (List ℕ)
member_keys no_members = []
member_keys (member name d ms) = name ∷ member_keys ms

abbrev pub keys_of : Data → List (List ℕ)
keys_of (table ms) = member_keys ms
keys_of _ = []

-- a table of this kind has a row of this name
abbrev pub has_row : List ℕ → Kind → Bool
has_row name kind = list_any (λ row. bytes_eq (key_name row.0) name) (rows_of kind)

-- or offers something by it
abbrev pub is_offered : List ℕ → Bool
is_offered name = bytes_eq name (codes "command") || bytes_eq name (codes "value")

abbrev pub has_key : List ℕ → Kind → Bool
has_key name kind = has_row name kind || (offers kind && is_offered name)

-- a table of these kinds reads the key
abbrev pub is_read : List Kind → List ℕ → Bool
is_read of_table name = list_any (has_key name) of_table

-- the keys of a table of these kinds that none of them reads, told of one of them
abbrev pub unread_keys : Place → Kind → List Kind → Data → List KeyThere
unread_keys place told of_table d = map (λ name. (place, told, name)) (filter (λ name. not (is_read of_table name)) (keys_of d))

-- those of a table that is of two kinds, and of a third if the second has a choice; none where no third is known
abbrev pub unread_of_kinds : Place → Kind → Kind → Option Choice → Option Kind → Data → List KeyThere
unread_of_kinds place first kind choice (Some service) d = unread_keys place kind (first ∷ kind ∷ service ∷ []) d
unread_of_kinds place first kind None None d = unread_keys place kind (first ∷ kind ∷ []) d
unread_of_kinds place first kind (Some choice) None d = []

-- those of a table of this kind, none where the kind that it names isn't known
abbrev pub unread_of_kind : Place → Kind → Option Kind → Data → List KeyThere
unread_of_kind place first None d = []
unread_of_kind place first (Some kind) d = unread_of_kinds place first kind (choice_of kind) (chosen kind d) d

abbrev pub unread_in : Place → Kind → Data → List KeyThere
unread_in place first d = unread_of_kind place first (chosen first d) d

-- those of the command that an event offers
abbrev pub offered_unread : ℕ → Option Data → Option Data → List KeyThere
offered_unread n (Some command) None = unread_in (places.Offered n) kinds.Command command
offered_unread n _ _ = []

-- those of a table by which an event excepts letters, with the numbers of the event and its own
abbrev pub except_unread : (n k : ℕ) → Data → List KeyThere
except_unread n k d = unread_keys (places.Excepted n k) kinds.Excepted (kinds.Excepted ∷ []) d

-- those of a command, and of an event, with its number
abbrev pub command_unread : ℕ → Data → List KeyThere
command_unread n d = unread_in (places.Command n) kinds.Command d

-- those of an event that it doesn't except, and all
abbrev pub own_unread : ℕ → Data → List KeyThere
own_unread n d =
    unread_in (places.Event n) kinds.Event d
    ++ (if is_offer (chosen kinds.Event d) then offered_unread n (get (codes "command") d) (get (codes "value") d) else [])

abbrev pub event_unread : ℕ → Data → List KeyThere
event_unread n d =
    own_unread n d ++ (if may_except (chosen kinds.Event d) then numbered (except_unread n) 0 (items_at d (codes "except")) else [])

-- those of a plan, and of a script
abbrev pub plan_unread : Data → List KeyThere
plan_unread d =
    unread_keys places.Whole kinds.Plan (kinds.Plan ∷ []) d ++ numbered command_unread 1 (items_at d (codes "command"))

abbrev pub script_unread : Data → List KeyThere
script_unread d =
    unread_keys places.Whole kinds.Script (kinds.Script ∷ []) d ++ numbered event_unread 0 (items_at d (codes "event"))

-- ---- as text

-- letters, digits, underlines and dashes alone
abbrev pub is_bare : List ℕ → Bool
is_bare name = list_all (λ byte. is_ascii_alphanumeric byte || (byte == 95 || byte == 45)) name

abbrev pub name_text : List ℕ → List ℕ
name_text name = if is_bare name then codes "\"" ++ (name ++ codes "\"") else codes "a key that isn't a bare one"

-- the table, and the key
abbrev pub unread_text : KeyThere → List ℕ
unread_text u = head_text u.0 u.1 ++ (codes ": nothing reads " ++ name_text u.2)
