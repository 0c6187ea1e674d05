-- The faults of a table: each key that holds something else than is wanted there, in the order of its kind's rows.
use Rattle.std.specs.Prelude.{◌≡◌, ◌↔◌, ℕ, ◌+◌, Bool, true, false, if◌then◌else◌, List, [], ◌∷◌, ◌++◌, Option, Some}
use Rattle.std.specs.Prelude.{None, is_ok, is_some, ◌||◌, codes, filter_map}
use Rattle.hex.specs.Hex.{decode_of}
use Rattle.toml.specs.Data.{Data, string, integer, float, boolean, datetime, array, table, Members, get, as_str}
use Rattle.ballots.specs.declared.members.Members.{Members as NodeCount}
use Rattle.grant_machine.specs.declared.command.Command.{Command}
use Rattle.script_steps.specs.declared.entry.Entry.{Entry}
use Rattle.script_text.specs.CommandTable.{SpellsCommand}
use Rattle.script_text.specs.Items.{items_at as members_items, AllMean}
use Rattle.script_text.specs.StepScript.{IsStepTable}
use Rattle.text_faults.specs.declared.kind.Kind.{Kind}
use Rattle.text_faults.specs.declared.kind.Kind.TheVariants as kinds
use Rattle.text_faults.specs.declared.kind.Group.{Group}
use Rattle.text_faults.specs.declared.row.Choice.{Choice}
use Rattle.text_faults.specs.declared.row.Choice.TheVariants.{Naming, OfLetter}
use Rattle.text_faults.specs.declared.row.Key.{Key}
use Rattle.text_faults.specs.declared.row.Key.TheVariants as keys
use Rattle.text_faults.specs.declared.row.Wants.{Wants}
use Rattle.text_faults.specs.declared.row.Wants.TheVariants as wants
use Rattle.text_faults.specs.declared.fault.Found.{Found}
use Rattle.text_faults.specs.declared.fault.Found.TheVariants as found
use Rattle.text_faults.specs.declared.fault.Place.{Place}
use Rattle.text_faults.specs.declared.fault.Place.TheVariants as places
use Rattle.text_faults.specs.declared.fault.Fault.{Fault}
use Rattle.text_faults.specs.Kinds.{named}
use Rattle.text_faults.specs.Rows.{key_name, rows_of, choice_of, word}
use Rattle.text_faults.specs.Fits.{is_number, holds, may_lack}
use Rattle.text_faults.specs.Items.{items_at}

-- what a value is, as it is told
abbrev pub found_in : Data → Found
found_in (string s) = found.Text
found_in (integer z) = found.Number z
found_in (float x) = found.Float
found_in (boolean b) = found.Boolean
found_in (datetime t) = found.Time
found_in (array ds) = found.Array
found_in (table ms) = found.Table

-- ---- the keys of a table

-- the fault of a key that holds this, if that isn't what is wanted there
abbrev pub fault_of : Place → Kind → Key → Wants → Option Data → Option Fault
fault_of place kind key wants None =
    if may_lack wants then None else Some (record { place = place; kind = kind; key = key; wants = wants; found = found.Nothing })
fault_of place kind key wants (Some d) =
    if holds wants d then None else Some (record { place = place; kind = kind; key = key; wants = wants; found = found_in d })

abbrev pub fault_at : Place → Kind → Data → Key × Wants → Option Fault
fault_at place kind d row = fault_of place kind row.0 row.1 (get (key_name row.0) d)

-- the faults of the keys that a kind has, told of a kind
abbrev pub key_faults : Place → Kind → Kind → Data → List Fault
key_faults place told kind d = filter_map (fault_at place told d) (rows_of kind)

-- the kind of the group that a text names
abbrev pub named_by : Group → Option (List ℕ) → Option Kind
named_by group None = None
named_by group (Some name) = named group name

abbrev pub named_in : Group → Option Data → Option Kind
named_in group None = None
named_in group (Some d) = named_by group (as_str d)

-- one of the keys is there that say from whom, to whom, or of what kind a letter is
abbrev pub says_whose : Data → Bool
says_whose d = is_some (get (codes "from") d) || (is_some (get (codes "to") d) || is_some (get (codes "note") d))

-- how a table asks for a letter, by what it holds under the letter's number, and by whether it says whose it is
abbrev pub letter_kind : Option Data → Bool → Kind
letter_kind (Some number) whose = kinds.Numbered
letter_kind None true = kinds.Named
letter_kind None false = kinds.Unnamed

-- the further kind of which a table of a kind is
abbrev pub chosen_by : Option Choice → Data → Option Kind
chosen_by None d = None
chosen_by (Some (Naming key group)) d = named_in group (get (key_name key) d)
chosen_by (Some OfLetter) d = Some (letter_kind (get (codes "letter") d) (says_whose d))

abbrev pub chosen : Kind → Data → Option Kind
chosen kind d = chosen_by (choice_of kind) d

-- the faults of a table of this kind, of the kind that it names, and of the further kind of this one
abbrev pub service_faults : Place → Kind → Option Kind → Data → List Fault
service_faults place told None d = []
service_faults place told (Some kind) d = key_faults place told kind d

abbrev pub kind_faults : Place → Option Kind → Data → List Fault
kind_faults place None d = []
kind_faults place (Some kind) d = key_faults place kind kind d ++ service_faults place kind (chosen kind d) d

abbrev pub table_faults : Place → Kind → Data → List Fault
table_faults place kind d = key_faults place kind kind d ++ kind_faults place (chosen kind d) d

-- ---- what an event offers

-- the value is a text of two hexadecimal digits a byte
abbrev pub is_digits : Option (List ℕ) → Bool
is_digits None = false
is_digits (Some digits) = is_ok (decode_of digits)

abbrev pub is_hex : Data → Bool
is_hex d = is_digits (as_str d)

-- the fault of the bytes that an event offers
abbrev pub value_fault : ℕ → Wants → Found → Fault
value_fault n wants found = record { place = places.Event n; kind = kinds.Offer; key = keys.Value; wants = wants; found = found }

-- the faults of the command or the bytes that an event offers
abbrev pub offered_faults : ℕ → Option Data → Option Data → List Fault
offered_faults n None None = value_fault n wants.Hex found.Nothing ∷ []
offered_faults n None (Some digits) = if is_hex digits then [] else value_fault n wants.Hex (found_in digits) ∷ []
offered_faults n (Some command) None = table_faults (places.Offered n) kinds.Command command
offered_faults n (Some command) (Some digits) = value_fault n wants.Nothing (found_in digits) ∷ []

-- the kind is one that offers something
abbrev pub offers : Kind → Bool
offers kinds.Offer = true
offers _ = false

abbrev pub is_offer : Option Kind → Bool
is_offer None = false
is_offer (Some kind) = offers kind

-- ---- what an event excepts

-- one of the keys is there that say something of a letter
abbrev pub says_any : Data → Bool
says_any d = says_whose d || (is_some (get (codes "ballot") d) || is_some (get (codes "place") d))

-- of which kind a table is that excepts letters, and its faults, with the numbers of its event and its own
abbrev pub except_kind : Data → Kind
except_kind d = if says_any d then kinds.Excepted else kinds.Boundless

abbrev pub except_faults : (n k : ℕ) → Data → List Fault
except_faults n k d = key_faults (places.Excepted n k) kinds.Excepted (except_kind d) d

-- the kind is one that may except letters
abbrev pub excepts : Kind → Bool
excepts kinds.DeliverAll = true
excepts _ = false

abbrev pub may_except : Option Kind → Bool
may_except None = false
may_except (Some kind) = excepts kind

-- ---- the items of a text

-- what is told of items that are numbered from n on
abbrev pub numbered : {X : Type 0} → (ℕ → Data → List X) → ℕ → List Data → List X
numbered told n [] = []
numbered told n (d ∷ ds) = told n d ++ numbered told (n + 1) ds

-- the faults of a command, an event and a modem's id, with its number
abbrev pub command_faults : ℕ → Data → List Fault
command_faults n d = table_faults (places.Command n) kinds.Command d

-- those of an event that don't concern what it excepts, and all
abbrev pub own_faults : ℕ → Data → List Fault
own_faults n d =
    table_faults (places.Event n) kinds.Event d
    ++ (if is_offer (chosen kinds.Event d) then offered_faults n (get (codes "command") d) (get (codes "value") d) else [])

abbrev pub event_faults : ℕ → Data → List Fault
event_faults n d =
    own_faults n d ++ (if may_except (chosen kinds.Event d) then numbered (except_faults n) 0 (items_at d (codes "except")) else [])

abbrev pub id_faults : ℕ → Data → List Fault
id_faults n d =
    if is_number 4294967295 d then [] else
    record { place = places.Modem n; kind = kinds.Modem; key = keys.Id; wants = word; found = found_in d } ∷ []

-- the faults of a plan, and of a script
abbrev pub plan_faults : Data → List Fault
plan_faults d = key_faults places.Whole kinds.Plan kinds.Plan d ++ numbered command_faults 1 (items_at d (codes "command"))

abbrev pub script_faults : Data → List Fault
script_faults d =
    key_faults places.Whole kinds.Script kinds.Script d ++ numbered id_faults 0 (items_at d (codes "modems"))
    ++ numbered event_faults 0 (items_at d (codes "event"))

-- the table is that of a plan, and of a script, as they are read
abbrev pub IsPlanTable : Members → Type 0
IsPlanTable ms = (cs : List Command) × AllMean SpellsCommand (members_items ms (codes "command")) cs

abbrev pub IsScript : Members → Type 0
IsScript ms = (count : NodeCount) × (ids : List ℕ) × (entries : List Entry) × IsStepTable ms count ids entries

-- the faults are none exactly where a table is read
abbrev pub TellsWhether : (Members → Type 0) → Data → List Fault → Type 0
TellsWhether IsRead d faults = (ms : Members) → d ≡ table ms → ((faults ≡ []) ↔ IsRead ms)
