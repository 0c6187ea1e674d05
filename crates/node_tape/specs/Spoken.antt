-- What comes into the journal of bytes that are to go out.
use Rattle.std.specs.Prelude.{ℕ, min, Bool, if◌then◌else◌, List, [], ◌∷◌, ◌++◌, length, drop}

-- an empty line where none was written yet, and then what isn't there already of these bytes
abbrev pub bytes_to_note : Bool → ℕ → List ℕ → List ℕ
bytes_to_note has_begun ahead bytes = (if has_begun then [] else 10 ∷ []) ++ drop (min ahead (length bytes)) bytes
