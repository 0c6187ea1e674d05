-- Elements that begin at offsets in order, and others behind them.
use Rattle.std.proofs.Common.{◌≡◌, ◌⊎◌, ℕ, zero, suc, ◌+◌, ◌<◌, ◌≤◌, Bool, true, false, cond, ◌||◌, List, [], ◌∷◌, ◌++◌}
use Rattle.std.proofs.Common.{filter, length, Option, Some, None, refl, sym, ap, subst, ◌∙◌, arith, inl, inr, eqb}
use Rattle.std.proofs.Common.{slice_get}
use Rattle.std.specs.List.{list_any, range_with_len, filter_map, cons_option}
use Rattle.std.proofs.lemmas.Bool.{eqb-true}
use Rattle.std.proofs.lemmas.Option.{same_Some}
use Rattle.map_body.specs.declared.element.Element.{Element}
use Rattle.map_body.proofs.Callers.{get_front}
use Rattle.flow_state.proofs.Callers.{Has, eqb_apart, has_at}

-- the first place or a later one
pub first_or_later : (a x : ℕ) → a ≤ x → (a ≡ x) ⊎ (a + 1 ≤ x)
first_or_later a x le = grind arith

-- where the interval of e stands among the first elements, that offset x lies in
pub record InList (es : List Element) (bound x : ℕ) (e : Element) : Type 0 where
  pub place : ℕ
  pub next : Element
  pub here_is : slice_get es place ≡ Some e
  pub next_is : slice_get es (suc place) ≡ Some next
  pub not_ended : x < next.offset
  pub inside : place < bound

module _ (b : ℕ → Option Element) where
  -- the elements that begin at n offsets from a on
  abbrev pub begun : ℕ → ℕ → List Element
  begun a n = filter_map b (range_with_len a n)

  -- an element stands where it begins
  abbrev pub StandAt : Type 0
  StandAt = (x : ℕ) (e : Element) → b x ≡ Some e → e.offset ≡ x

  pub begun_has : (a n : ℕ) (e : Element) → Has (begun a n) e → (x : ℕ) × (a ≤ x) × (x < a + n) × (b x ≡ Some e)
  begun_has a zero e h = absurd h
  begun_has a (suc n) e h =
      elim (b a) as (λ o. b a ≡ o → Has (cons_option o (begun (a + 1) n)) e → (x : ℕ) × (a ≤ x) × (x < a + suc n) × (b x ≡ Some e)) [
        | None ↦ λ f g. let m = begun_has (a + 1) n e g in (m.0, omega (arith, m.1), omega (arith, m.2), m.3)
        | Some d ↦ λ f g. elim g [
          | inl same ↦ (a, omega arith, omega arith, f ∙ ap (λ (c : Element). Some c) same)
          | inr later ↦ let m = begun_has (a + 1) n e later in (m.0, omega (arith, m.1), omega (arith, m.2), m.3)
        ]
      ] refl h

  -- the first of them, or what stands behind them
  first_from : StandAt → (a n : ℕ) (null : Element) (rest : List Element) (h : Element) → null.offset ≡ a + n → slice_get (begun a n ++ null ∷ rest) 0 ≡ Some h → (a ≤ h.offset) × (h.offset ≤ a + n)
  first_from at a zero null rest h end e = let same : null.offset ≡ h.offset = ap (λ (c : Element). c.offset) (same_Some null h e) in (omega arith, omega arith)
  first_from at a (suc n) null rest h end e =
      elim (b a) as (λ o. b a ≡ o → slice_get (cons_option o (begun (a + 1) n) ++ null ∷ rest) 0 ≡ Some h → (a ≤ h.offset) × (h.offset ≤ a + suc n)) [
        | None ↦ λ f g. let m = first_from at (a + 1) n null rest h (omega arith) g in (omega (arith, m.0), omega (arith, m.1))
        | Some d ↦ λ f g. let here : h.offset ≡ a = ap (λ (c : Element). c.offset) (sym (same_Some d h g)) ∙ at a d f in (omega arith, omega arith)
      ] refl e

  -- no element begins before the first one
  first_gap : StandAt → (a n : ℕ) (null : Element) (rest : List Element) (h : Element) → null.offset ≡ a + n → slice_get (begun a n ++ null ∷ rest) 0 ≡ Some h → (z : ℕ) → a ≤ z → z < h.offset → b z ≡ None
  first_gap at a zero null rest h end e z ge lt = absurd (let same : null.offset ≡ h.offset = ap (λ (c : Element). c.offset) (same_Some null h e) in omega arith)
  first_gap at a (suc n) null rest h end e z ge lt =
      elim (b a) as (λ o. b a ≡ o → slice_get (cons_option o (begun (a + 1) n) ++ null ∷ rest) 0 ≡ Some h → b z ≡ None) [
        | None ↦ λ f g. elim (first_or_later a z ge) [
          | inl same ↦ subst (λ k. b k ≡ None) same f
          | inr more ↦ first_gap at (a + 1) n null rest h (omega arith) g z more lt
        ]
        | Some d ↦ λ f g. absurd (let here : h.offset ≡ a = ap (λ (c : Element). c.offset) (sym (same_Some d h g)) ∙ at a d f in omega arith)
      ] refl e

  -- what stands next to one of them: it doesn't begin earlier, no element begins in between, and it begins at the end at the latest
  pub record NextTo (a n : ℕ) (before here : Element) : Type 0 where
    pub rises : before.offset ≤ here.offset
    pub gap : (z : ℕ) → before.offset < z → z < here.offset → b z ≡ None
    pub within : here.offset ≤ a + n

  pub next_to : StandAt → (a n : ℕ) (null : Element) (rest : List Element) (place : ℕ) (before here : Element) → null.offset ≡ a + n
      → slice_get (begun a n ++ null ∷ rest) place ≡ Some before → slice_get (begun a n ++ null ∷ rest) (suc place) ≡ Some here → suc place ≤ length (begun a n) → NextTo a n before here
  next_to at a zero null rest place before here end d e le = absurd (omega arith)
  next_to at a (suc n) null rest place before here end d e le =
      elim (b a) as (λ o. b a ≡ o → slice_get (cons_option o (begun (a + 1) n) ++ null ∷ rest) place ≡ Some before → slice_get (cons_option o (begun (a + 1) n) ++ null ∷ rest) (suc place) ≡ Some here
      → suc place ≤ length (cons_option o (begun (a + 1) n)) → NextTo a (suc n) before here) [
        | None ↦ λ f g h k. widened (next_to at (a + 1) n null rest place before here (omega arith) g h k)
        | Some x ↦ λ f. by x f place (λ p g h k. next_to at (a + 1) n null rest p before here (omega arith) g h k)
      ] refl d e le
    where
      widened : NextTo (a + 1) n before here → NextTo a (suc n) before here
      widened m = let within = m.within in record { rises = m.rises; gap = m.gap; within = omega arith }

      by : (x : Element) → b a ≡ Some x → (p : ℕ)
          → ((q : ℕ) → slice_get (begun (a + 1) n ++ null ∷ rest) q ≡ Some before → slice_get (begun (a + 1) n ++ null ∷ rest) (suc q) ≡ Some here → suc q ≤ length (begun (a + 1) n) → NextTo (a + 1) n before here)
          → slice_get (x ∷ begun (a + 1) n ++ null ∷ rest) p ≡ Some before → slice_get (x ∷ begun (a + 1) n ++ null ∷ rest) (suc p) ≡ Some here → suc p ≤ suc (length (begun (a + 1) n)) → NextTo a (suc n) before here
      by x f zero later g h k =
          let first : before.offset ≡ a = ap (λ (c : Element). c.offset) (sym (same_Some x before g)) ∙ at a x f in
          let next = first_from at (a + 1) n null rest here (omega arith) h in
          record { rises = omega (arith, next.0); gap = λ z gt lt. first_gap at (a + 1) n null rest here (omega arith) h z (omega arith) lt; within = omega (arith, next.1) }
      by x f (suc q) later g h k = widened (later q g h (omega arith))

  -- what stands first where no element begins up to x
  first_after : StandAt → (a n : ℕ) (null : Element) (rest : List Element) (x : ℕ) → null.offset ≡ a + n → x < a + n → ((z : ℕ) → a ≤ z → z ≤ x → b z ≡ None)
      → (next : Element) × (slice_get (begun a n ++ null ∷ rest) 0 ≡ Some next) × (x < next.offset)
  first_after at a zero null rest x end lt none = (null, refl, omega arith)
  first_after at a (suc n) null rest x end lt none =
      elim (b a) as (λ o. b a ≡ o → (next : Element) × (slice_get (cons_option o (begun (a + 1) n) ++ null ∷ rest) 0 ≡ Some next) × (x < next.offset)) [
        | None ↦ λ f. first_after at (a + 1) n null rest x (omega arith) (omega arith) (λ z ge le. none z (omega arith) le)
        | Some d ↦ λ f. (d, refl, late d f)
      ] refl
    where
      late : (d : Element) → b a ≡ Some d → x < d.offset
      late d f = let here = at a d f in elim (split a x) [ inl lt ↦ omega arith | inr le ↦ absurd (let off = none a (omega arith) le in cc) ]
        where
          split : (a x : ℕ) → (x < a) ⊎ (a ≤ x)
          split a x = grind arith

  -- offset x lies in the interval of the element that begins last up to it
  pub in_row : StandAt → (a n : ℕ) (null : Element) (rest : List Element) (y x : ℕ) (e : Element) → null.offset ≡ a + n → a ≤ y → y ≤ x → x < a + n → b y ≡ Some e → ((z : ℕ) → y < z → z ≤ x → b z ≡ None)
      → InList (begun a n ++ null ∷ rest) (length (begun a n)) x e
  in_row at a zero null rest y x e end ge le lt is none = absurd (omega arith)
  in_row at a (suc n) null rest y x e end ge le lt is none =
      let split = first_or_later a y ge in
      elim (b a) as (λ o. b a ≡ o → InList (cons_option o (begun (a + 1) n) ++ null ∷ rest) (length (cons_option o (begun (a + 1) n))) x e) [
        | None ↦ λ f. elim split [
          | inl same ↦ absurd cc
          | inr more ↦ in_row at (a + 1) n null rest y x e (omega arith) more le (omega arith) is none
        ]
        | Some d ↦ λ f. elim split [
          | inl same ↦
              let next = first_after at (a + 1) n null rest x (omega arith) (omega arith) (λ z more low. none z (omega arith) low) in
              let here : d ≡ e = same_Some d e (sym f ∙ ap b same ∙ is) in
              record { place = 0; next = next.0; here_is = ap (λ (c : Element). Some c) here; next_is = next.1; not_ended = next.2; inside = omega arith }
          | inr more ↦
              let later = in_row at (a + 1) n null rest y x e (omega arith) more le (omega arith) is none in
              let within = later.inside in
              record { place = suc later.place; next = later.next; here_is = later.here_is; next_is = later.next_is; not_ended = later.not_ended; inside = omega arith }
        ]
      ] refl

  -- at most as many elements as offsets that pass a test, where each element begins at one that does
  pub begun_count : (u : ℕ → Bool) (a n : ℕ) → ((x : ℕ) (e : Element) → b x ≡ Some e → u x ≡ true) → length (begun a n) ≤ length (filter u (range_with_len a n))
  begun_count u a zero all = omega arith
  begun_count u a (suc n) all =
      let later = begun_count u (a + 1) n all in
      elim (b a) as (λ o. b a ≡ o → length (cons_option o (begun (a + 1) n)) ≤ length (cond (u a) (a ∷ filter u (range_with_len (a + 1) n)) (filter u (range_with_len (a + 1) n)))) [
        | None ↦ λ f. elim (u a) as (λ c. length (begun (a + 1) n) ≤ length (cond c (a ∷ filter u (range_with_len (a + 1) n)) (filter u (range_with_len (a + 1) n)))) [ true ↦ omega arith | false ↦ later ]
        | Some d ↦ λ f. subst (λ c. suc (length (begun (a + 1) n)) ≤ length (cond c (a ∷ filter u (range_with_len (a + 1) n)) (filter u (range_with_len (a + 1) n)))) (sym (all a d f)) (omega arith)
      ] refl

-- ---- lists before lists

pub at_front : {X : Type 0} (xs ys : List X) (k : ℕ) (x : X) → slice_get (xs ++ ys) k ≡ Some x → k < length xs → Has xs x
at_front xs ys k x is within = has_at xs k x (sym (get_front xs ys k within) ∙ is)

-- ---- how many offsets pass

either_count : (p q : ℕ → Bool) (xs : List ℕ) → length (filter (λ x. p x || q x) xs) ≤ length (filter p xs) + length (filter q xs)
either_count p q [] = omega arith
either_count p q (x ∷ xs) =
    let later = either_count p q xs in
    by (p x) (q x) (filter (λ y. p y || q y) xs) (filter p xs) (filter q xs) later
  where
    by : (s t : Bool) (us vs ws : List ℕ) → length us ≤ length vs + length ws → length (cond (s || t) (x ∷ us) us) ≤ length (cond s (x ∷ vs) vs) + length (cond t (x ∷ ws) ws)
    by true true us vs ws le = omega arith
    by true false us vs ws le = omega arith
    by false true us vs ws le = omega arith
    by false false us vs ws le = omega arith

no_more : (k a n : ℕ) → k < a → length (filter (λ x. eqb k x) (range_with_len a n)) ≡ 0
no_more k a zero lt = refl
no_more k a (suc n) lt = ap (λ c. length (cond c (a ∷ filter (λ x. eqb k x) (range_with_len (a + 1) n)) (filter (λ x. eqb k x) (range_with_len (a + 1) n)))) (eqb_apart k a lt) ∙ no_more k (a + 1) n (omega arith)

one_count : (k a n : ℕ) → length (filter (λ x. eqb k x) (range_with_len a n)) ≤ 1
one_count k a zero = omega arith
one_count k a (suc n) =
    let later = one_count k (a + 1) n in
    elim (eqb k a) as (λ c. eqb k a ≡ c → length (cond c (a ∷ filter (λ x. eqb k x) (range_with_len (a + 1) n)) (filter (λ x. eqb k x) (range_with_len (a + 1) n))) ≤ 1) [
      | true ↦ λ e. let same : k ≡ a = eqb-true k a e in let none = no_more k (a + 1) n (omega arith) in omega arith
      | false ↦ λ e. later
    ] refl

-- at most as many offsets are named by some of the list as there are of them
named_count : {X : Type 0} (g : X → ℕ) (ps : List X) (a n : ℕ) → length (filter (λ x. list_any (λ p. eqb (g p) x) ps) (range_with_len a n)) ≤ length ps
named_count g [] a zero = omega arith
named_count g [] a (suc n) = named_count g [] (a + 1) n
named_count g (p ∷ ps) a n =
    let here = one_count (g p) a n in
    let more = named_count g ps a n in
    let sum = either_count (λ x. eqb (g p) x) (λ x. list_any (λ q. eqb (g q) x) ps) (range_with_len a n) in
    omega arith

-- offset 0, and those that are named by two numbers each
pub named_twice : {X : Type 0} (g h : X → ℕ) (ps : List X) (n : ℕ)
    → length (filter (λ x. eqb 0 x || (list_any (λ p. eqb (g p) x) ps || list_any (λ p. eqb (h p) x) ps)) (range_with_len 0 n)) ≤ 1 + (length ps + length ps)
named_twice g h ps n =
    let zero_is = one_count 0 0 n in
    let front = named_count g ps 0 n in
    let back = named_count h ps 0 n in
    let inner = either_count (λ x. list_any (λ p. eqb (g p) x) ps) (λ x. list_any (λ p. eqb (h p) x) ps) (range_with_len 0 n) in
    let outer = either_count (λ x. eqb 0 x) (λ x. list_any (λ p. eqb (g p) x) ps || list_any (λ p. eqb (h p) x) ps) (range_with_len 0 n) in
    omega arith
