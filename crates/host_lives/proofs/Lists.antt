-- Functions of numbers that differ at one, what stands where in two lists, and outputs by their numbers.
use Rattle.std.proofs.Common.{◌≡◌, ◌≢◌, ◌⊎◌, inl, inr, ⊎_elim, ℕ, zero, suc, ◌+◌, false, cond, eqb, List, [], ◌∷◌, ◌++◌}
use Rattle.std.proofs.Common.{length, drop, refl, sym, ap, subst, ◌∙◌, arith, Some, slice_get}
use Rattle.std.proofs.lemmas.Bool.{eq-eqb}
use Rattle.std.proofs.lemmas.Bool.Decides.{eqb_tells}
use Rattle.ballots.specs.Voting.{IsIn}
use Rattle.grant_machine.specs.declared.output.Output.{Output}
use Rattle.map_release.specs.declared.numbered.Numbered.{Numbered}
use Rattle.map_release.specs.Released.{numbered}

-- this at k, and else what f gives
abbrev pub with_at : {X : Type 0} → (ℕ → X) → ℕ → X → ℕ → X
with_at f k x = λ j. cond (eqb j k) x (f j)

-- what holds of it at k, and of f elsewhere, holds of it
pub at_each : {X : Type 0} (P : ℕ → X → Type 0) (f : ℕ → X) (k : ℕ) (x : X) → P k x → ((j : ℕ) → j ≢ k → P j (f j)) → (j : ℕ) → P j (with_at f k x j)
at_each {X} P f k x here there j = ⊎_elim
    (λ yes. subst (λ b. P j (cond b x (f j))) (sym yes.0) (subst (λ (n : ℕ). P n x) (sym yes.1) here))
    (λ no. subst (λ b. P j (cond b x (f j))) (sym no.0) (there j no.1))
    (eqb_tells j k)

-- the same of two functions
pub at_both : {X Y : Type 0} (P : ℕ → X → Y → Type 0) (f : ℕ → X) (g : ℕ → Y) (k : ℕ) (x : X) (y : Y) → P k x y → ((j : ℕ) → j ≢ k → P j (f j) (g j)) → (j : ℕ) → P j (with_at f k x j) (with_at g k y j)
at_both {X} {Y} P f g k x y here there j = ⊎_elim
    (λ yes. subst (λ b. P j (cond b x (f j)) (cond b y (g j))) (sym yes.0) (subst (λ (n : ℕ). P n x y) (sym yes.1) here))
    (λ no. subst (λ b. P j (cond b x (f j)) (cond b y (g j))) (sym no.0) (there j no.1))
    (eqb_tells j k)

pub at_one : {X : Type 0} (f : ℕ → X) (k : ℕ) (x : X) → with_at f k x k ≡ x
at_one f k x = ap (λ b. cond b x (f k)) (eq-eqb k k refl)

pub apart : (j k : ℕ) → j ≢ k → eqb j k ≡ false
apart j k other = ⊎_elim (λ yes. absurd (other yes.1)) (λ no. no.0) (eqb_tells j k)

pub at_other : {X : Type 0} (f : ℕ → X) (k : ℕ) (x : X) (j : ℕ) → j ≢ k → with_at f k x j ≡ f j
at_other f k x j other = ap (λ b. cond b x (f j)) (apart j k other)

-- with what stood there nothing changes
pub at_same : {X : Type 0} (f : ℕ → X) (k : ℕ) (x : X) → x ≡ f k → (j : ℕ) → with_at f k x j ≡ f j
at_same {X} f k x same j = ⊎_elim
    (λ yes. ap (λ b. cond b x (f j)) yes.0 ∙ same ∙ ap f (sym yes.1))
    (λ no. ap (λ b. cond b x (f j)) no.0)
    (eqb_tells j k)

-- what stands in two lists stands in the first, or in the second behind it
pub get_parts : {X : Type 0} (xs ys : List X) (i : ℕ) (x : X) → slice_get (xs ++ ys) i ≡ Some x → (slice_get xs i ≡ Some x) ⊎ ((j : ℕ) × (i ≡ length xs + j) × (slice_get ys j ≡ Some x))
get_parts [] ys i x is = inr (i, omega arith, is)
get_parts (y ∷ xs) ys zero x is = inl is
get_parts (y ∷ xs) ys (suc i) x is = ⊎_elim (λ h. inl h) (λ h. inr (h.0, omega (arith, h.1), h.2)) (get_parts xs ys i x is)

pub get_in : {X : Type 0} (xs : List X) (i : ℕ) (x : X) → slice_get xs i ≡ Some x → IsIn xs x
get_in [] i x is = absurd (cc (is))
get_in (y ∷ xs) zero x is = inl (cc (is))
get_in (y ∷ xs) (suc i) x is = inr (get_in xs i x is)

pub in_drop : {X : Type 0} (n : ℕ) (xs : List X) (x : X) → IsIn (drop n xs) x → IsIn xs x
in_drop zero xs x here = here
in_drop (suc n) [] x here = absurd here
in_drop (suc n) (y ∷ xs) x here = inr (in_drop n xs x here)

-- an output with its number stands at its place
pub in_numbered : (p : ℕ) (outputs : List Output) (x : Numbered) → IsIn (numbered p outputs) x → (i : ℕ) × (x.place ≡ i + p) × (slice_get outputs i ≡ Some x.output)
in_numbered p [] x here = absurd here
in_numbered p (o ∷ outputs) x (inl is) = let e : x.place ≡ p = ap (λ (y : Numbered). y.place) is in (zero, omega arith, ap (λ (y : Numbered). Some y.output) (sym is))
in_numbered p (o ∷ outputs) x (inr there) = let r = in_numbered (p + 1) outputs x there in (suc r.0, (let e : x.place ≡ r.0 + (p + 1) = r.1 in omega arith), r.2)
