-- What is told of a text that is known.
use Rattle.std.proofs.Common.{◌≡◌, ◌↔◌, ℕ, Bool, true, List, Option, None, Some, IfSome, Result, Ok, Err, IfOk, ◌∙◌}
use Rattle.upsched_check.specs.declared.form.Form.{Form}
use Rattle.upsched_check.specs.Reports.{IsGood, Reports, ReportsKnown}

-- where a text that was read is told of, the known text is
pub told_known : {E : Type 0} (r : Result Bool E) (path : List ℕ) (said : Option Form) (known old new : Option (List ℕ)) (text read : List ℕ) → IfSome known (λ bytes. text ≡ bytes) → read ≡ text
    → IfOk r (λ good. Reports path said read good old new) → IfOk r (λ good. (good ≡ true) ↔ IsGood said read) → IfOk r (λ good. ReportsKnown path said known good old new)
told_known (Err e) path said known old new text read same whole told good = tt
told_known (Ok b) path said None old new text read same whole told good = tt
told_known (Ok b) path said (Some bytes) old new text read same whole told good = let is : read ≡ bytes = whole ∙ same in (rw is at told, rw is at good)
