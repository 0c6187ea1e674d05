-- Lists by place: the first item that passes a test, and an item put at a place.
use Rattle.std.proofs.Common.{◌≡◌, ◌≢◌, ℕ, ◌+◌, ◌<◌, ◌≤◌, Bool, true, false, cond, suc, zero, List, [], ◌∷◌, ◌++◌}
use Rattle.std.proofs.Common.{length, slice_get, slice_set, Some, None, refl, ap, ◌∙◌, ltb, arith}
use Rattle.std.specs.List.{find}
use Rattle.std.proofs.lemmas.List.{length-set, length-append}
use Rattle.flow_state.specs.StoredLeases.{put_at}

module _ {X : Type 0} (p : X → Bool) where
  -- it stands at a place before which none passes
  pub find_placed : (xs : List X) (k : ℕ) (x : X) → slice_get xs k ≡ Some x → p x ≡ true → ((q : ℕ) (y : X) → q < k → slice_get xs q ≡ Some y → p y ≡ false) → find p xs ≡ Some x
  find_placed [] k x e is before = absurd cc
  find_placed (y ∷ xs) zero x e is before = let same : y ≡ x = cc in ap (λ b. cond b (Some y) (find p xs)) (ap p same ∙ is) ∙ ap (λ (z : X). Some z) same
  find_placed (y ∷ xs) (suc k) x e is before =
      ap (λ b. cond b (Some y) (find p xs)) (before 0 y (omega arith) refl) ∙ find_placed xs k x e is (λ q z lt f. before (suc q) z (omega arith) f)

  -- none of them passes
  pub find_nowhere : (xs : List X) → ((q : ℕ) (y : X) → slice_get xs q ≡ Some y → p y ≡ false) → find p xs ≡ None
  find_nowhere [] none = refl
  find_nowhere (y ∷ xs) none = ap (λ b. cond b (Some y) (find p xs)) (none 0 y refl) ∙ find_nowhere xs (λ q z f. none (suc q) z f)

module _ {X : Type 0} where
  put_first : (z x : X) (xs : List X) → put_at (z ∷ xs) zero x ≡ x ∷ xs
  put_first z x xs = ap (λ b. cond b (x ∷ xs) ((z ∷ xs) ++ x ∷ [])) (let lt : ltb 0 (suc (length xs)) ≡ true = grind arith in lt)

  put_later : (z x : X) (xs : List X) (k : ℕ) → put_at (z ∷ xs) (suc k) x ≡ z ∷ put_at xs k x
  put_later z x xs k =
      ap (λ b. cond b (z ∷ slice_set xs k x) (z ∷ (xs ++ x ∷ []))) (let same : ltb (suc k) (suc (length xs)) ≡ ltb k (length xs) = grind arith in same)
      ∙ elim (ltb k (length xs)) as (λ b. cond b (z ∷ slice_set xs k x) (z ∷ (xs ++ x ∷ [])) ≡ z ∷ cond b (slice_set xs k x) (xs ++ x ∷ [])) [ true ↦ refl | false ↦ refl ]

  -- it stands there
  pub at_put : (xs : List X) (k : ℕ) (x : X) → k ≤ length xs → slice_get (put_at xs k x) k ≡ Some x
  at_put [] zero x le = refl
  at_put [] (suc k) x le = absurd (omega arith)
  at_put (z ∷ xs) zero x le = ap (λ (ys : List X). slice_get ys 0) (put_first z x xs)
  at_put (z ∷ xs) (suc k) x le = ap (λ (ys : List X). slice_get ys (suc k)) (put_later z x xs k) ∙ at_put xs k x (omega arith)

  -- at another place stands what stood there
  pub other_put : (xs : List X) (k : ℕ) (x : X) (p : ℕ) → k ≤ length xs → p ≢ k → slice_get (put_at xs k x) p ≡ slice_get xs p
  other_put [] zero x zero le apart = absurd (apart refl)
  other_put [] zero x (suc p) le apart = refl
  other_put [] (suc k) x p le apart = absurd (omega arith)
  other_put (z ∷ xs) zero x zero le apart = absurd (apart refl)
  other_put (z ∷ xs) zero x (suc p) le apart = ap (λ (ys : List X). slice_get ys (suc p)) (put_first z x xs)
  other_put (z ∷ xs) (suc k) x zero le apart = ap (λ (ys : List X). slice_get ys 0) (put_later z x xs k)
  other_put (z ∷ xs) (suc k) x (suc p) le apart = ap (λ (ys : List X). slice_get ys (suc p)) (put_later z x xs k) ∙ other_put xs k x p (omega arith) (λ e. apart (ap suc e))

  pub put_within : (xs : List X) (k : ℕ) (x : X) → k < length xs → put_at xs k x ≡ slice_set xs k x
  put_within xs k x lt = ap (λ b. cond b (slice_set xs k x) (xs ++ x ∷ [])) (let is : ltb k (length xs) ≡ true = grind (arith, lt) in is)

  pub put_behind : (xs : List X) (k : ℕ) (x : X) → length xs ≤ k → put_at xs k x ≡ xs ++ x ∷ []
  put_behind xs k x le = ap (λ b. cond b (slice_set xs k x) (xs ++ x ∷ [])) (let is : ltb k (length xs) ≡ false = grind (arith, le) in is)

  -- there are as many with it, or one more
  pub length_within : (xs : List X) (k : ℕ) (x : X) → k < length xs → length (put_at xs k x) ≡ length xs
  length_within xs k x lt = ap length (put_within xs k x lt) ∙ length-set xs k x

  pub length_behind : (xs : List X) (k : ℕ) (x : X) → length xs ≤ k → length (put_at xs k x) ≡ length xs + 1
  length_behind xs k x le = ap length (put_behind xs k x le) ∙ length-append xs (x ∷ [])
