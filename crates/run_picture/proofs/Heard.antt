-- The arrow of an output that is there, in the row of the event that released it.
use Rattle.std.proofs.Common.{◌≡◌, ◌<◌, ℕ, nat_lt, true, if◌then◌else◌, List, ◌++◌, Result, OnOk, Some, refl, sym, ap}
use Rattle.std.proofs.Common.{subst, ◌∙◌, length, get_or, slice_get, lt-ltb}
use Rattle.std.proofs.lemmas.Option.{slice_get_read, slice_get-get_or}
use Rattle.seats.specs.declared.answer.ReleasedOutput.{ReleasedOutput}
use Rattle.xml_text.specs.Xml.{Xml, render}
use Rattle.run_picture.specs.Arrows.{output_arrow}
use Rattle.run_picture.specs.Parts.{hearing_from, lanes}
use Rattle.run_picture.specs.declared.scene.Scene.{Scene}

pub heard_drawn : {T E : Type 0} (r : Result T E) (old new : List ℕ) (s : Scene) (k o y all released d : ℕ) (output : ReleasedOutput) → o < length s.outputs.now → output ≡ get_or s.outputs.now o output
    → o < length s.releasers.now → released ≡ get_or s.releasers.now o d → output.node < s.members → all ≡ lanes s
    → OnOk r (new ≡ old ++ render (output_arrow all k o output released y))
    → OnOk r (new ≡ old ++ render (hearing_from s k o (slice_get s.outputs.now o) (slice_get s.releasers.now o) y))
heard_drawn r old new s k o y all released d output below is within was fits is_all drawn =
    let there : slice_get s.outputs.now o ≡ Some output = slice_get_read s.outputs.now (length s.outputs.now) o output refl below is in
    let row : slice_get s.releasers.now o ≡ Some released = slice_get-get_or s.releasers.now o d within ∙ ap (λ (n : ℕ). Some n) (sym was) in
    let whole : output_arrow all k o output released y ≡ hearing_from s k o (slice_get s.outputs.now o) (slice_get s.releasers.now o) y =
    rw (there, row, lt-ltb output.node s.members fits, is_all) refl in
    subst (λ (x : Xml). OnOk r (new ≡ old ++ render x)) whole drawn
