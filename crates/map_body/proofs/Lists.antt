-- What stands where in a list with another behind it.
use Rattle.std.proofs.Common.{◌≡◌, ℕ, zero, suc, ◌+◌, ◌<◌, List, [], ◌∷◌, ◌++◌, length, refl, ap, arith, slice_get}

-- the elements of the front stay
pub get_front : {X : Type 0} (xs ys : List X) (k : ℕ) → k < length xs → slice_get (xs ++ ys) k ≡ slice_get xs k
get_front [] ys k within = absurd (omega arith)
get_front (x ∷ xs) ys zero within = refl
get_front (x ∷ xs) ys (suc k) within = get_front xs ys k (omega arith)

-- behind the front stand those of the rest
pub get_behind : {X : Type 0} (xs ys : List X) (k i : ℕ) → length xs + k ≡ i → slice_get (xs ++ ys) i ≡ slice_get ys k
get_behind [] ys k i is = ap (slice_get ys) (omega arith)
get_behind (x ∷ xs) ys k zero is = absurd (omega arith)
get_behind (x ∷ xs) ys k (suc i) is = get_behind xs ys k i (omega arith)
