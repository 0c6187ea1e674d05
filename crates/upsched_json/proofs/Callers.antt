-- A text that went out as a line: what crates above cite too.
use Rattle.std.proofs.Common.{ℕ, List, [], ◌∷◌, ◌++◌, Option, Result, Ok, Err, OnOk}
use Rattle.std.specs.Io.KnownBytes.{Appends, Keeps}
use Rattle.std.proofs.KnownBytes.{Appends-kept}
use Rattle.serde_json.specs.Data.{Data}
use Rattle.json_outputs.specs.Texts.{IsTextOf, IsTextWhere}
use Rattle.upsched_json.specs.Lines.{PrintsValue, PrintsLine}

-- a value of a kind, and one that is known
pub line_printed : {T E : Type 0} (r : Result T E) (P : Data → Type 0) (text : List ℕ) (old new : Option (List ℕ)) → IsTextWhere P text
    → OnOk r (Appends old new (text ++ 10 ∷ [])) → OnOk r (PrintsLine P old new)
line_printed (Ok x) P text old new told line = (text, told, line)
line_printed (Err e) P text old new told line = tt

pub value_printed : {T E : Type 0} (r : Result T E) (d : Data) (text : List ℕ) (old new : Option (List ℕ)) → IsTextOf d text
    → OnOk r (Appends old new (text ++ 10 ∷ [])) → OnOk r (PrintsValue d old new)
value_printed (Ok x) d text old new told line = (text, told, line)
value_printed (Err e) d text old new told line = tt

pub value_kept : (d : Data) (old mid new : Option (List ℕ)) → PrintsValue d old mid → Keeps mid new → PrintsValue d old new
value_kept d old mid new (text, told, line) kept = (text, told, Appends-kept old mid new _ line kept)
