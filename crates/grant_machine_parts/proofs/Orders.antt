-- The waiting requests by priority are no more than those that wait.
use Rattle.std.proofs.Common.{◌≡◌, ℕ, ◌+◌, ◌<◌, ◌≤◌, Bool, true, false, cond, List, [], ◌∷◌, ◌++◌, filter, length, refl}
use Rattle.std.proofs.Common.{sym, ap, subst, ◌∙◌, arith, eqb, length-append}
use Rattle.std.specs.List.{flat_map}
use Rattle.std.proofs.lemmas.Bool.{eqb-true}
use Rattle.flow_state.specs.declared.flow.Waiting.{Waiting}
use Rattle.flow_state.specs.Rows.{Table}
use Rattle.grant_machine_parts.specs.Cutting.{priority_of, in_order}
use Rattle.flow_state.proofs.Callers.{filter_append, filter_swap}

-- numbers that fall, from below a bound on
abbrev Falling : ℕ → List ℕ → Type 0
Falling bound [] = Unit {0}
Falling bound (n ∷ ns) = (n < bound) × Falling n ns

-- how often a number is listed
abbrev times : ℕ → List ℕ → ℕ
times k [] = 0
times k (n ∷ ns) = cond (eqb k n) 1 0 + times k ns

none_of : (k bound : ℕ) (ns : List ℕ) → Falling bound ns → bound ≤ k → times k ns ≡ 0
none_of k bound [] f le = refl
none_of k bound (n ∷ ns) f le =
    let later : times k ns ≡ 0 = none_of k n ns f.1 (omega (arith, f.0)) in
    let here : cond {A = ℕ} (eqb k n) 1 0 ≡ 0 = ap (λ c. cond {A = ℕ} c 1 0) (apart k n (omega (arith, f.0))) in
    omega arith
  where
    apart : (k n : ℕ) → n < k → eqb k n ≡ false
    apart k n lt = grind arith

once : (k bound : ℕ) (ns : List ℕ) → Falling bound ns → times k ns ≤ 1
once k bound [] f = omega arith
once k bound (n ∷ ns) f =
    let later = once k n ns f.1 in
    elim (eqb k n) as (λ c. eqb k n ≡ c → cond c 1 0 + times k ns ≤ 1) [
      | true ↦ λ e. let same = eqb-true k n e in let none = none_of k n ns f.1 (omega arith) in omega arith
      | false ↦ λ e. omega arith
    ] refl

module _ {X : Type 0} (f : X → ℕ) where
  abbrev by_number : List X → List ℕ → List X
  by_number xs ns = flat_map (λ n. filter (λ y. eqb (f y) n) xs) ns

  -- one more element is listed as often as its number
  total_step : (ns : List ℕ) (x : X) (xs : List X) → length (by_number (x ∷ xs) ns) ≡ times (f x) ns + length (by_number xs ns)
  total_step [] x xs = refl
  total_step (n ∷ ns) x xs =
      let later = total_step ns x xs in
      let ys : List X = filter (λ y. eqb (f y) n) xs in
      let old = length-append ys (by_number xs ns) in
      elim (eqb (f x) n) as (λ b. length (cond b (x ∷ ys) ys ++ by_number (x ∷ xs) ns) ≡ cond {A = ℕ} b 1 0 + times (f x) ns + length (ys ++ by_number xs ns)) [
        | true ↦ let new = length-append (x ∷ ys) (by_number (x ∷ xs) ns) in omega arith
        | false ↦ let new = length-append ys (by_number (x ∷ xs) ns) in omega arith
      ]

  -- listed by falling numbers, there are no more elements than in the list itself
  fewer_by_number : (bound : ℕ) (ns : List ℕ) → Falling bound ns → (xs : List X) → length (by_number xs ns) ≤ length xs
  fewer_by_number bound ns falls [] = empty ns
    where
      empty : (ms : List ℕ) → length (by_number [] ms) ≤ 0
      empty [] = omega arith
      empty (m ∷ ms) = empty ms
  fewer_by_number bound ns falls (x ∷ xs) =
      let later = fewer_by_number bound ns falls xs in
      let step = total_step ns x xs in
      let one = once (f x) bound ns falls in
      omega arith

priorities_fall : Falling 8 (7 ∷ 6 ∷ 5 ∷ 4 ∷ 3 ∷ 2 ∷ 1 ∷ 0 ∷ [])
priorities_fall = (omega arith, (omega arith, (omega arith, (omega arith, (omega arith, (omega arith, (omega arith, (omega arith, tt))))))))

pub in_order_length : (t : Table) (ws : List Waiting) → length (in_order t ws) ≤ length ws
in_order_length t ws = fewer_by_number (priority_of t) 8 (7 ∷ 6 ∷ 5 ∷ 4 ∷ 3 ∷ 2 ∷ 1 ∷ 0 ∷ []) priorities_fall ws

listed : (p : ℕ → Waiting → Bool) (q : Waiting → Bool) (ws : List Waiting) (ns : List ℕ) → flat_map (λ n. filter (p n) (filter q ws)) ns ≡ filter q (flat_map (λ n. filter (p n) ws) ns)
listed p q ws [] = refl
listed p q ws (n ∷ ns) =
    ap (λ (xs : List Waiting). xs ++ flat_map (λ m. filter (p m) (filter q ws)) ns) (filter_swap (p n) q ws)
    ∙ ap (λ (xs : List Waiting). filter q (filter (p n) ws) ++ xs) (listed p q ws ns)
    ∙ sym (filter_append q (filter (p n) ws) (flat_map (λ m. filter (p m) ws) ns))

-- requests that pass a test, in order
pub passing_in_order : (t : Table) (q : Waiting → Bool) (ws : List Waiting) → filter q (in_order t ws) ≡ in_order t (filter q ws)
passing_in_order t q ws = sym (listed (λ n w. eqb (priority_of t w) n) q ws (7 ∷ 6 ∷ 5 ∷ 4 ∷ 3 ∷ 2 ∷ 1 ∷ 0 ∷ []))

-- those that pass are no more than those that wait and pass
pub in_order_fewer : (p : Waiting → Bool) (t : Table) (ws : List Waiting) → length (filter p (in_order t ws)) ≤ length (filter p ws)
in_order_fewer p t ws = subst (λ (vs : List Waiting). length vs ≤ length (filter p ws)) (sym (passing_in_order t p ws)) (in_order_length t (filter p ws))
