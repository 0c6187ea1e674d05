-- JSON as text.
use Rattle.std.specs.Prelude.{◌≡◌, ◌≤◌, ℕ, false, List, Some}
use Rattle.serde_json.specs.Data.{Data, depth}
use Rattle.serde_json.specs.Read.{read, max_depth}
use Rattle.serde_json.specs.Written.{compact_text, has_float}

-- it has no fraction, and nests no deeper than a reader goes
abbrev pub IsPlain : Data → Type 0
IsPlain d = (has_float d ≡ false) × (depth d ≤ max_depth)

-- the text of a value, without spaces; a reader of JSON takes the value from it
abbrev pub IsTextOf : Data → List ℕ → Type 0
IsTextOf d text = (text ≡ compact_text d) × (read text ≡ Some d)

-- the text of a value of this kind
abbrev pub IsTextWhere : (Data → Type 0) → List ℕ → Type 0
IsTextWhere P text = (d : Data) × P d × IsTextOf d text
