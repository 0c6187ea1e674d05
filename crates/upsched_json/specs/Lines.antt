-- What is printed as JSON: lines, each the text of a value and a line's end.
use Rattle.std.specs.Prelude.{ℕ, List, [], ◌∷◌, ◌++◌, Option}
use Rattle.std.specs.Io.KnownBytes.{Appends}
use Rattle.serde_json.specs.Data.{Data}
use Rattle.json_outputs.specs.Texts.{IsTextOf, IsTextWhere}

-- the line of this value is printed
abbrev pub PrintsValue : Data → Option (List ℕ) → Option (List ℕ) → Type 0
PrintsValue d old new = (text : List ℕ) × IsTextOf d text × Appends old new (text ++ 10 ∷ [])

-- the line of a value of this kind is printed
abbrev pub PrintsLine : (Data → Type 0) → Option (List ℕ) → Option (List ℕ) → Type 0
PrintsLine P old new = (text : List ℕ) × IsTextWhere P text × Appends old new (text ++ 10 ∷ [])
