-- What files held, one file further.
use Rattle.std.proofs.Common.{◌≡◌, ℕ, List, [], ◌∷◌, ◌++◌, Option, IfSome}
use Rattle.upsched_audit.specs.Audits.{AreHeld}

pub held_more : {F : Type 0} (remaining : F → Option (List ℕ)) (files : List F) (journals : List (List ℕ)) (file : F) (journal : List ℕ) → AreHeld remaining files journals → IfSome (remaining file) (λ bytes. journal ≡ bytes)
    → AreHeld remaining (files ++ file ∷ []) (journals ++ journal ∷ [])
held_more remaining [] [] file journal held one = (one, tt)
held_more remaining (f ∷ files) (j ∷ journals) file journal held one = (held.0, held_more remaining files journals file journal held.1 one)
held_more remaining [] (j ∷ journals) file journal held one = absurd held
held_more remaining (f ∷ files) [] file journal held one = absurd held
