-- A text that is pushed onto another.
use Rattle.std.proofs.Common.{◌≡◌, ℕ, List, [], ◌++◌, if◌then◌else◌, is_ok, Result, Ok, Err, OnOk, ap, ◌∙◌}

-- where there is room for it, it is at the end
pub pushed : {T E : Type 0} (r : Result T E) (old text said new : List ℕ) → new ≡ (if is_ok r then old ++ text else old) → text ≡ said → OnOk r (new ≡ old ++ said)
pushed (Ok x) old text said new is_new is_text = is_new ∙ ap (λ t. old ++ t) is_text
pushed (Err e) old text said new is_new is_text = tt

-- a text that is pushed onto nothing
pub begun : (old text new : List ℕ) → old ≡ [] → new ≡ old ++ text → new ≡ text
begun old text new nothing grown = grown ∙ ap (λ t. t ++ text) nothing
