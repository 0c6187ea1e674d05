-- Items one after another, without a fault.
use Rattle.std.proofs.Common.{◌≡◌, ℕ, ◌+◌, List, [], ◌∷◌, refl}
use Rattle.std.specs.List.{AllZip}
use Rattle.toml.specs.Data.{Data}
use Rattle.text_faults.specs.declared.fault.Fault.{Fault}
use Rattle.text_faults.specs.Faults.{numbered}
use Rattle.text_faults.proofs.Keys.{both_empty}

pub all_mean : {X : Type 0} (Means : Data → X → Type 0) (f : ℕ → Data → List Fault) → ((n : ℕ) (d : Data) → f n d ≡ [] → (x : X) × Means d x)
    → (n : ℕ) (ds : List Data) → numbered f n ds ≡ [] → (xs : List X) × AllZip Means ds xs
all_mean Means f one n [] h = ([], tt)
all_mean Means f one n (d ∷ ds) h =
    let parts = both_empty (f n d) (numbered f (n + 1) ds) h in
    let (x, means) = one n d parts.0 in
    let (xs, rest) = all_mean Means f one (n + 1) ds parts.1 in
    (x ∷ xs, (means, rest))

pub none_faulted : {X : Type 0} (Means : Data → X → Type 0) (f : ℕ → Data → List Fault) → ((n : ℕ) (d : Data) (x : X) → Means d x → f n d ≡ [])
    → (n : ℕ) (ds : List Data) (xs : List X) → AllZip Means ds xs → numbered f n ds ≡ []
none_faulted Means f one n [] [] h = refl
none_faulted Means f one n [] (x ∷ xs) h = absurd h
none_faulted Means f one n (d ∷ ds) [] h = absurd h
none_faulted Means f one n (d ∷ ds) (x ∷ xs) h = rw (one n d x h.0, none_faulted Means f one (n + 1) ds xs h.1) refl
