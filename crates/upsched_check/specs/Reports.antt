-- What is told of a text.
use Rattle.std.specs.Prelude.{◌≡◌, ◌↔◌, ℕ, ◌≤◌, Bool, true, false, ◌||◌, if◌then◌else◌, List, [], ◌∷◌, ◌++◌, length}
use Rattle.std.specs.Prelude.{Option, Some, None, is_some, is_none, codes, decimal, flat_map}
use Rattle.std.specs.Io.KnownBytes.{Appends}
use Rattle.toml.specs.Data.{Data, table, Members, get}
use Rattle.toml.specs.Parse.{parse_document}
use Rattle.grant_machine.specs.declared.command.Command.{Command}
use Rattle.text_faults.specs.declared.fault.Fault.{Fault}
use Rattle.text_faults.specs.Faults.{plan_faults, script_faults, IsPlanTable, IsScript}
use Rattle.text_faults.specs.Texts.{fault_text}
use Rattle.script_text.specs.Plan.{IsPlan}
use Rattle.upsched_maps.specs.Refusals.{refusal_lines}
use Rattle.text_faults.specs.Unread.{KeyThere, plan_unread, script_unread, unread_text}
use Rattle.upsched_check.specs.declared.form.Form.{Form}
use Rattle.upsched_check.specs.declared.form.Form.TheVariants.{Plan, Script}
use Rattle.upsched_check.specs.Lines.{line_of, column_of}

-- ---- what a text is to be

abbrev pub form_name : Form → List ℕ
form_name Plan = codes "plan"
form_name Script = codes "script"

-- the key of its commands or events
abbrev pub form_key : Form → List ℕ
form_key Plan = codes "command"
form_key Script = codes "event"

-- one of a script's keys is there
abbrev pub is_script : Data → Bool
is_script d = is_some (get (codes "members") d) || (is_some (get (codes "modems") d) || is_some (get (codes "event") d))

-- what is said, else what the keys tell
abbrev pub form_of : Option Form → Data → Form
form_of None d = if is_script d then Script else Plan
form_of (Some form) d = form

abbrev pub faults_of : Form → Data → List Fault
faults_of Plan d = plan_faults d
faults_of Script d = script_faults d

abbrev pub unread_of : Form → Data → List KeyThere
unread_of Plan d = plan_unread d
unread_of Script d = script_unread d

-- the table is read as this
abbrev pub IsForm : Form → Members → Type 0
IsForm Plan ms = IsPlanTable ms
IsForm Script ms = IsScript ms

-- the text is read as what it is to be
abbrev pub IsGood : Option Form → List ℕ → Type 0
IsGood said text = (ms : Members) × (parse_document text ≡ Some ms) × IsForm (form_of said (table ms)) ms

-- ---- lines

abbrev pub fault_line : List ℕ → Fault → List ℕ
fault_line path f = path ++ (codes ": " ++ (fault_text f ++ 10 ∷ []))

-- the line of a key that nothing reads
abbrev pub unread_line : List ℕ → KeyThere → List ℕ
unread_line path u = path ++ (codes ": " ++ (unread_text u ++ 10 ∷ []))

-- what is told of a text without a fault, and also where that key isn't there
abbrev pub good_text : Form → Bool → List ℕ
good_text form true = codes "no fault in this " ++ (form_name form ++ (codes ", and no key " ++ form_key form))
good_text form false = codes "no fault in this " ++ form_name form

abbrev pub good_line : List ℕ → Form → Bool → List ℕ
good_line path form bare = path ++ (codes ": " ++ (good_text form bare ++ 10 ∷ []))

-- the line of a text that isn't TOML, with the place where it ends to be so, and why
abbrev pub toml_line : List ℕ → List ℕ → ℕ → List ℕ → List ℕ
toml_line path text start why =
    path ++ (codes ":" ++ (decimal (line_of text start) ++ (codes ":" ++ (decimal (column_of text start) ++ (codes ": " ++ (why ++ 10 ∷ []))))))

-- a line for each fault, or one that tells of none
abbrev pub fault_lines : List ℕ → Form → Bool → List Fault → List ℕ
fault_lines path form bare [] = good_line path form bare
fault_lines path form bare (f ∷ fs) = flat_map (fault_line path) (f ∷ fs)

abbrev pub is_bare : Form → Data → Bool
is_bare form d = is_none (get (form_key form) d)

abbrev pub is_empty : List Fault → Bool
is_empty [] = true
is_empty (f ∷ fs) = false

-- what is printed of a table that is looked at as this: of its faults, and then of each key that nothing reads
abbrev pub form_lines : List ℕ → Form → Data → List ℕ
form_lines path form d =
    fault_lines path form (is_bare form d) (faults_of form d) ++ flat_map (unread_line path) (unread_of form d)

-- what is printed of a table, and whether it is good
abbrev pub table_lines : List ℕ → Option Form → Data → List ℕ
table_lines path said d = form_lines path (form_of said d) d

abbrev pub is_good : Option Form → Data → Bool
is_good said d = is_empty (faults_of (form_of said d) d)

-- what a table is good as, if it is good
abbrev pub good_as : Option Form → Data → Option Form
good_as said d = if is_good said d then Some (form_of said d) else None

-- what is printed behind that of a text that is good as this: a line for each command of a plan that is refused
abbrev pub Warns : (path text : List ℕ) → Option Form → List ℕ → Type 0
Warns path text (Some Plan) printed = (cs : List Command) × IsPlan text cs × (printed ≡ refusal_lines path cs)
Warns path text (Some Script) printed = printed ≡ []
Warns path text None printed = printed ≡ []

-- what is printed of a text that isn't TOML, or of its table and a plan's commands, and whether it is good
abbrev pub TellsOf : List ℕ → Option Form → List ℕ → Option Members → Bool → List ℕ → Type 0
TellsOf path said text None good printed =
    (start : ℕ) × (why : List ℕ) × (start ≤ length text) × (printed ≡ toml_line path text start why) × (good ≡ false)
TellsOf path said text (Some ms) good printed =
    (warned : List ℕ) × Warns path text (good_as said (table ms)) warned × (printed ≡ table_lines path said (table ms) ++ warned)
    × (good ≡ is_good said (table ms))

-- what is told of a text goes out
abbrev pub Reports : List ℕ → Option Form → List ℕ → Bool → Option (List ℕ) → Option (List ℕ) → Type 0
Reports path said text good old new = (printed : List ℕ) × TellsOf path said text (parse_document text) good printed × Appends old new printed

-- the same, where the text is known
abbrev pub ReportsKnown : List ℕ → Option Form → Option (List ℕ) → Bool → Option (List ℕ) → Option (List ℕ) → Type 0
ReportsKnown path said None good old new = Unit {0}
ReportsKnown path said (Some text) good old new = Reports path said text good old new × ((good ≡ true) ↔ IsGood said text)
