-- Faults of a script, along what they are told of.
use Rattle.std.proofs.Common.{◌≡◌, Option, Some, Result, Ok, Err, IfOk}

-- what a reading alone may give, along what it is told of
pub only_along : {X E : Type 0} (r : Result (Option X) E) (P Q : X → Type 0) → ((x : X) → Q x → P x) → IfOk r (λ found. (x : X) → P x → found ≡ Some x) → IfOk r (λ found. (x : X) → Q x → found ≡ Some x)
only_along (Ok found) P Q along h = λ x there. h x (along x there)
only_along (Err e) P Q along h = tt
