-- A channel that is known.
use Rattle.std.proofs.Common.{◌≡◌, Option, Some, None, refl}
use Rattle.std.specs.Option.{IfSome}

-- what holds of a value, where there is one
pub known : {K : Type 0} (o : Option K) (P : K → Type 0) → (o ≡ None → ⊥) → IfSome o P → (c : K) × (o ≡ Some c) × P c
known None P is_some p = absurd (is_some refl)
known (Some c) P is_some p = (c, refl, p)
