-- Rows that may be a node's, in a list and as they are shown.
use Rattle.std.proofs.Common.{◌≡◌, ℕ, zero, suc, List, [], ◌∷◌, ◌++◌, map, drop, refl, ap}
use Rattle.acceptor_store_parts.proofs.Words.{AllByRecursion, Row}

module _ {V : Type 0} (Fits : V → Type 0) (shown : V → Row) where
  pub one_more : (vs : List V) (v : V) → AllByRecursion Fits vs → Fits v → AllByRecursion Fits (vs ++ v ∷ [])
  one_more [] v all fits = (fits, tt)
  one_more (w ∷ vs) v all fits = (all.0, one_more vs v all.1 fits)

  -- a row that shows one of them
  pub shown_at : (vs : List V) (i : ℕ) (row : Row) (rest : List Row) → AllByRecursion Fits vs → drop i (map shown vs) ≡ row ∷ rest → (v : V) × Fits v × (row ≡ shown v)
  shown_at [] zero row rest all e = absurd cc
  shown_at [] (suc i) row rest all e = absurd cc
  shown_at (v ∷ vs) zero row rest all e = let is : row ≡ shown v = cc in (v, all.0, is)
  shown_at (v ∷ vs) (suc i) row rest all e = shown_at vs i row rest all.1 e

  pub one_shown : (vs : List V) (v : V) → map shown (vs ++ v ∷ []) ≡ map shown vs ++ shown v ∷ []
  one_shown [] v = refl
  one_shown (w ∷ vs) v = ap (λ rows. shown w ∷ rows) (one_shown vs v)
