-- A fault as text. Numbers are decimal.
use Rattle.std.specs.Prelude.{ℕ, Bool, true, false, nat_le, if◌then◌else◌, List, [], ◌++◌, codes, decimal, flat_map}
use Rattle.std.specs.Fmt.{signed_decimal}
use Rattle.text_faults.specs.declared.kind.Kind.{Kind}
use Rattle.text_faults.specs.declared.kind.Kind.TheVariants as kinds
use Rattle.text_faults.specs.declared.kind.Group.{Group}
use Rattle.text_faults.specs.declared.row.Wants.{Wants}
use Rattle.text_faults.specs.declared.row.Wants.TheVariants as wants
use Rattle.text_faults.specs.declared.fault.Found.{Found}
use Rattle.text_faults.specs.declared.fault.Found.TheVariants as found
use Rattle.text_faults.specs.declared.fault.Place.{Place}
use Rattle.text_faults.specs.declared.fault.Place.TheVariants as places
use Rattle.text_faults.specs.declared.fault.Fault.{Fault}
use Rattle.text_faults.specs.Kinds.{kind_name, kinds_of}
use Rattle.text_faults.specs.Rows.{key_name}

-- the table, by its number
abbrev pub place_text : Place → List ℕ
place_text places.Whole = []
place_text (places.Modem n) = codes "modem " ++ decimal n
place_text (places.Command n) = codes "command " ++ decimal n
place_text (places.Event n) = codes "event " ++ decimal n
place_text (places.Offered n) = codes "event " ++ (decimal n ++ codes ": command")
place_text (places.Excepted n k) = codes "event " ++ (decimal n ++ (codes ": except " ++ decimal k))

-- its kind, behind its number
abbrev pub subject_text : Kind → List ℕ
subject_text kinds.Plan = codes "plan"
subject_text kinds.Script = codes "script"
subject_text kinds.Modem = []
subject_text kinds.Command = []
subject_text kinds.Event = []
subject_text kinds.Excepted = []
subject_text kind = codes ": " ++ kind_name kind

abbrev pub head_text : Place → Kind → List ℕ
head_text place kind = place_text place ++ subject_text kind

-- what is wanted at a key
abbrev pub number_text : ℕ → List ℕ
number_text most =
    if nat_le 9223372036854775807 most then codes "a whole number, 0 or more" else codes "a whole number from 0 to " ++ decimal most

abbrev pub names_text : Group → List ℕ
names_text group = codes "one of:" ++ flat_map (λ kind. codes " " ++ kind_name kind) (kinds_of group)

abbrev pub wanted_text : Wants → List ℕ
wanted_text (wants.Number most) = number_text most
wanted_text (wants.NumberOrNothing most) = number_text most
wanted_text wants.Bytes = codes "two whole numbers from 0 to 255"
wanted_text wants.BytesOrNothing = codes "two whole numbers from 0 to 255"
wanted_text (wants.Name group) = names_text group
wanted_text (wants.NameOrNothing group) = names_text group
wanted_text wants.FlagOrNothing = codes "true or false"
wanted_text wants.Members = codes "3 or 5"
wanted_text wants.Tables = codes "an array of tables"
wanted_text wants.Ids = codes "an array of whole numbers"
wanted_text wants.Hex = codes "pairs of hexadecimal digits (there is no command)"
wanted_text wants.Nothing = codes "left out (there is a command)"
wanted_text wants.Letter = codes "a whole number, 0 or more (there is no from, to or note)"
wanted_text wants.Excepts = codes "an array of one table at least"
wanted_text wants.Rounds = codes "a whole number from 1 to 4"
wanted_text wants.Bound = codes "a whole number from 0 to 4 (there is no from, note, ballot or place)"

-- some text is wanted, or some array
abbrev pub is_text : Wants → Bool
is_text (wants.Name group) = true
is_text (wants.NameOrNothing group) = true
is_text wants.Hex = true
is_text _ = false

abbrev pub is_array : Wants → Bool
is_array wants.Bytes = true
is_array wants.BytesOrNothing = true
is_array wants.Excepts = true
is_array _ = false

-- what the key holds in place of that
abbrev pub found_text : Wants → Found → List ℕ
found_text wants found.Nothing = codes "nothing"
found_text wants (found.Number z) = signed_decimal z
found_text wants found.Text = if is_text wants then codes "another text" else codes "a text"
found_text wants found.Float = codes "a float"
found_text wants found.Boolean = codes "a boolean"
found_text wants found.Time = codes "a date or time"
found_text wants found.Array = if is_array wants then codes "another array" else codes "an array"
found_text wants found.Table = codes "a table"

abbrev pub is_nothing : Found → Bool
is_nothing found.Nothing = true
is_nothing _ = false

-- the table, the key, what is there, and what is wanted
abbrev pub lacking_text : Fault → List ℕ
lacking_text f = head_text f.place f.kind ++ (codes " lacks \"" ++ (key_name f.key ++ (codes "\", " ++ wanted_text f.wants)))

abbrev pub unfit_text : Fault → List ℕ
unfit_text f =
    head_text f.place f.kind ++ (codes ": " ++ (key_name f.key ++ (codes " is " ++ (found_text f.wants f.found ++ (codes ", not " ++ wanted_text f.wants)))))

abbrev pub fault_text : Fault → List ℕ
fault_text f = if is_nothing f.found then lacking_text f else unfit_text f
