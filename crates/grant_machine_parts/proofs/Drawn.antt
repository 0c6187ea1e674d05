-- The elements of a MAP: those of placements where minislots are held, and one for each longest free run.
use Rattle.std.proofs.Common.{◌≡◌, ◌⊎◌, ℕ, zero, suc, ◌+◌, ◌-◌, ◌<◌, ◌≤◌, ◌^◌, Bool, true, false, cond, ◌||◌, List, []}
use Rattle.std.proofs.Common.{◌∷◌, ◌++◌, Option, Some, None, is_none, is_some, length, get_or, drop, inl, inr, refl}
use Rattle.std.proofs.Common.{sym, ap, subst, ◌∙◌, arith, eqb, leb, ltb, append_assoc}
use Rattle.std.proofs.Math.Bool.{or-true}
use Rattle.std.specs.List.{filter_map, range_with_len, AllByRecursion}
use Rattle.std.proofs.lemmas.Bool.{cases_lt, ltb-true, ltb-false, leb-true, le-leb, lt-ltb, and_parts}
use Rattle.std.proofs.lemmas.List.{append-nil, drop_more}
use Rattle.std.proofs.lemmas.List.Elements.{filter_map-append}
use Rattle.flow_state.specs.Limits.{most_minislots}
use Rattle.map_body.specs.declared.element.Element.{Element}
use Rattle.grant_machine_parts.specs.Placing.{Placement, holds, holder, is_free}
use Rattle.grant_machine_parts.specs.Gaps.{Gap, IsGap, AreGaps}
use Rattle.grant_machine_parts.specs.Filling.{AreApart}
use Rattle.grant_machine_parts.specs.Drawing.{placed_element, free_element, beginning, begins_at}
use Rattle.flow_state.proofs.Callers.{eqb_apart, has_all, found_has}

-- ---- what begins from an offset on and before another

range_split : (a m n : ℕ) → range_with_len a (m + n) ≡ range_with_len a m ++ range_with_len (a + m) n
range_split a zero n = let same : a ≡ a + 0 = omega arith in let all : 0 + n ≡ n = omega arith in rw all (ap (λ k. range_with_len k n) same)
range_split a (suc m) n =
    let all : suc m + n ≡ suc (m + n) = omega arith in
    let next : a + 1 + m ≡ a + suc m = omega arith in
    rw all (ap (λ (ks : List ℕ). a ∷ ks) (range_split (a + 1) m n ∙ ap (λ k. range_with_len (a + 1) m ++ range_with_len k n) next))

none_in : (b : ℕ → Option Element) (a n : ℕ) → ((z : ℕ) → a ≤ z → z < a + n → b z ≡ None) → filter_map b (range_with_len a n) ≡ []
none_in b a zero none = refl
none_in b a (suc n) none = rw (none a (omega arith) (omega arith)) (none_in b (a + 1) n (λ z ge lt. none z (omega arith) (omega arith)))

-- first so many offsets, and then those from behind them on
pub joined : (b : ℕ → Option Element) (a m x n k : ℕ) → a + m ≡ x → m + n ≡ k → filter_map b (range_with_len a m) ++ filter_map b (range_with_len x n) ≡ filter_map b (range_with_len a k)
joined b a m x n k at all = sym (
    ap (λ j. filter_map b (range_with_len a j)) (sym all)
    ∙ ap (filter_map b) (range_split a m n ∙ ap (λ j. range_with_len a m ++ range_with_len j n) at)
    ∙ filter_map-append b (range_with_len a m) (range_with_len x n)
    )

-- nothing begins behind x and before y
one_in : (b : ℕ → Option Element) (x y : ℕ) → x < y → ((z : ℕ) → x < z → z < y → b z ≡ None) → filter_map b (range_with_len x (y - x)) ≡ filter_map b (x ∷ [])
one_in b x y lt none =
    let parts : y - x ≡ suc (y - (x + 1)) = omega arith in
    let rest : filter_map b (range_with_len (x + 1) (y - (x + 1))) ≡ [] = none_in b (x + 1) (y - (x + 1)) (λ z ge below. none z (omega arith) (omega arith)) in
    ap (λ n. filter_map b (range_with_len x n)) parts
    ∙ filter_map-append b (x ∷ []) (range_with_len (x + 1) (y - (x + 1)))
    ∙ ap (λ (es : List Element). filter_map b (x ∷ []) ++ es) rest
    ∙ append-nil (filter_map b (x ∷ []))

-- what begins from 0 on and before x, and then before y
pub placements_more : (b : ℕ → Option Element) (x y : ℕ) (old now : List Element) → x ≤ y → now ≡ old ++ filter_map b (range_with_len 0 x) → now ++ filter_map b (range_with_len x (y - x)) ≡ old ++ filter_map b (range_with_len 0 y)
placements_more b x y old now le were =
    ap (λ (es : List Element). es ++ filter_map b (range_with_len x (y - x))) were
    ∙ append_assoc old (filter_map b (range_with_len 0 x)) (filter_map b (range_with_len x (y - x)))
    ∙ ap (λ (es : List Element). old ++ es) (joined b 0 x x (y - x) y (omega arith) (omega arith))

-- ---- where minislots are held

-- what begins where a placement holds
held_begins : (ps : List Placement) (x : ℕ) (p : Placement) → holder ps x ≡ Some p → filter_map (begins_at ps) (x ∷ []) ≡ cond (eqb p.offset x) (placed_element p ∷ []) []
held_begins ps x p e = ap (λ (o : Option Element). filter_map (λ (k : ℕ). o) (x ∷ [])) (ap (beginning x (holder ps (x - 1))) e) ∙ by (eqb p.offset x)
  where
    by : (b : Bool) → filter_map (λ (k : ℕ). cond b (Some (placed_element p)) None) (x ∷ []) ≡ cond b (placed_element p ∷ []) []
    by true = refl
    by false = refl

-- nothing begins further on in a placement that alone holds its minislots
pub inside_begins : (ps : List Placement) (p : Placement) (x z : ℕ) → AreApart ps → holder ps x ≡ Some p → x < z → z < p.offset + p.size → begins_at ps z ≡ None
inside_begins ps p x z apart e gt lt =
    let found = found_has (holds x) ps p e in
    let from : p.offset ≤ x = leb-true p.offset x (and_parts (leb p.offset x) (ltb x (p.offset + p.size)) found.1).0 in
    let on : holds z p ≡ true = rw (le-leb p.offset z (omega arith), lt-ltb z (p.offset + p.size) lt) refl in
    let held : holder ps z ≡ Some p = has_all (λ (q : Placement). (y : ℕ) → holds y q ≡ true → holder ps y ≡ Some q) ps p apart found.0 z on in
    ap (beginning z (holder ps (z - 1))) held ∙ ap (λ b. cond b (Some (placed_element p)) None) (eqb_apart p.offset z (omega arith))

-- a placement that holds x is its holder, where each alone holds its minislots
pub holder_at : (ps : List Placement) (p : Placement) (k x : ℕ) → AreApart ps → true ≡ ltb k (length ps) → p ≡ get_or ps k p → holds x p ≡ true → Some p ≡ holder ps x
holder_at ps p k x apart within is on = sym (subst Alone (sym is) (all_at ps k p (ltb-true k (length ps) (sym within)) apart) x on)
  where
    Alone : Placement → Type 0
    Alone q = (y : ℕ) → holds y q ≡ true → holder ps y ≡ Some q

    all_at : (qs : List Placement) (i : ℕ) (d : Placement) → i < length qs → AllByRecursion Alone qs → Alone (get_or qs i d)
    all_at [] i d lt all = absurd (omega arith)
    all_at (q ∷ qs) zero d lt all = all.0
    all_at (q ∷ qs) (suc i) d lt all = all_at qs i d (omega arith) all.1

-- one more placement
pub placement_more : (ps : List Placement) (p : Placement) (from x y : ℕ) (old now new : List Element) → from ≤ x → x < y → holder ps x ≡ Some p → ((z : ℕ) → x < z → z < y → begins_at ps z ≡ None)
    → now ≡ old ++ filter_map (begins_at ps) (range_with_len from (x - from)) → new ≡ now ++ cond (eqb p.offset x) (placed_element p ∷ []) []
    → new ≡ old ++ filter_map (begins_at ps) (range_with_len from (y - from))
placement_more ps p from x y old now new ge lt e none were are =
    let b = begins_at ps in
    let front : List Element = filter_map b (range_with_len from (x - from)) in
    let one : List Element = cond (eqb p.offset x) (placed_element p ∷ []) [] in
    let here : filter_map b (range_with_len x (y - x)) ≡ one = one_in b x y lt none ∙ held_begins ps x p e in
    are ∙ ap (λ (es : List Element). es ++ one) were
    ∙ append_assoc old front one
    ∙ ap (λ (es : List Element). old ++ es) (ap (λ (es : List Element). front ++ es) (sym here) ∙ joined b from (x - from) x (y - x) (y - from) (omega arith) (omega arith))

-- ---- where minislots are free

unheld : (o : Option Placement) → is_none o ≡ true → o ≡ None
unheld None e = refl
unheld (Some p) e = absurd cc

is_held : (o : Option Placement) → is_none o ≡ false → is_some o ≡ true
is_held None e = absurd cc
is_held (Some p) e = refl

-- no free run begins before an offset and goes on there
abbrev pub BeginsAnew : List Placement → (len a : ℕ) → Type 0
BeginsAnew ps len a = (a ≡ 0) ⊎ (a < len → is_free ps a ≡ false)

-- what begins in a gap
gap_begins : (ps : List Placement) (len a : ℕ) (g : Gap) → IsGap (is_free ps) a len g → BeginsAnew ps len a
    → filter_map (begins_at ps) (range_with_len g.from (g.to - g.from)) ≡ cond (ltb g.from g.to) (free_element g.from ∷ []) []
gap_begins ps len a g is anew = by (ltb g.from g.to) refl
  where
    none_at : (z : ℕ) → g.from ≤ z → z < g.to → holder ps z ≡ None
    none_at z ge lt = unheld (holder ps z) (is.inside z ge lt)

    not_zero : (z : ℕ) → 0 < z → eqb z 0 ≡ false
    not_zero z some = grind arith

    further : (z : ℕ) → g.from < z → z < g.to → begins_at ps z ≡ None
    further z gt lt =
        ap (beginning z (holder ps (z - 1))) (none_at z (omega arith) lt)
        ∙ ap (λ (o : Option Placement). beginning z o None) (none_at (z - 1) (omega arith) (omega arith))
        ∙ ap (λ b. cond (b || false) (Some (free_element z)) None) (not_zero z (omega arith))

    held_before : 0 < g.from → g.from < g.to → is_free ps (g.from - 1) ≡ false
    held_before some lt = elim (cases_lt a g.from) [
      | inl below ↦ is.before (g.from - 1) (omega arith) (omega arith)
      | inr above ↦
          let least = is.from in
          let within = is.within in
          let same : a ≡ g.from = omega arith in
          elim anew [
            | inl zeroth ↦ absurd (omega arith)
            | inr held ↦
                let off : is_free ps g.from ≡ false = subst (λ n. is_free ps n ≡ false) same (held (omega arith)) in
                let on : is_free ps g.from ≡ true = is.inside g.from (omega arith) lt in
                absurd cc
          ]
    ]

    tests : g.from < g.to → (eqb g.from 0 || is_some (holder ps (g.from - 1))) ≡ true
    tests lt = elim (cases_lt 0 g.from) [
      | inl some ↦ ap (λ c. eqb g.from 0 || c) (is_held (holder ps (g.from - 1)) (held_before some lt)) ∙ or-true (eqb g.from 0)
      | inr none ↦ let zeroth : g.from ≡ 0 = omega arith in ap (λ c. c || is_some (holder ps (g.from - 1))) (ap (λ n. eqb n 0) zeroth)
    ]

    first : g.from < g.to → begins_at ps g.from ≡ Some (free_element g.from)
    first lt =
        ap (beginning g.from (holder ps (g.from - 1))) (none_at g.from (omega arith) lt)
        ∙ ap (λ c. cond c (Some (free_element g.from)) None) (tests lt)

    by : (c : Bool) → ltb g.from g.to ≡ c → filter_map (begins_at ps) (range_with_len g.from (g.to - g.from)) ≡ cond c (free_element g.from ∷ []) []
    by true e =
        let lt : g.from < g.to = ltb-true g.from g.to e in
        one_in (begins_at ps) g.from g.to lt further ∙ ap (λ (o : Option Element). filter_map (λ (k : ℕ). o) (g.from ∷ [])) (first lt)
    by false e =
        let le : g.to ≤ g.from = ltb-false g.from g.to e in
        let none : g.to - g.from ≡ 0 = omega arith in
        ap (λ n. filter_map (begins_at ps) (range_with_len g.from n)) none

-- one more gap, behind what is held before it
pub gap_more : (ps : List Placement) (len a : ℕ) (g : Gap) (old now held new : List Element) → IsGap (is_free ps) a len g → BeginsAnew ps len a
    → now ≡ old ++ filter_map (begins_at ps) (range_with_len 0 a) → held ≡ now ++ filter_map (begins_at ps) (range_with_len a (g.from - a)) → new ≡ held ++ cond (ltb g.from g.to) (free_element g.from ∷ []) []
    → new ≡ old ++ filter_map (begins_at ps) (range_with_len 0 g.to)
gap_more ps len a g old now held new is anew were then are =
    let b = begins_at ps in
    let least = is.from in
    let to = is.to in
    let one : List Element = cond (ltb g.from g.to) (free_element g.from ∷ []) [] in
    let front : List Element = filter_map b (range_with_len 0 g.from) in
    let before : held ≡ old ++ front = then ∙ placements_more b a g.from old now (omega arith) were in
    are ∙ ap (λ (es : List Element). es ++ one) before
    ∙ append_assoc old front one
    ∙ ap (λ (es : List Element). old ++ es) (ap (λ (es : List Element). front ++ es) (sym (gap_begins ps len a g is anew)) ∙ joined b 0 g.from g.from (g.to - g.from) g.to (omega arith) (omega arith))

-- ---- gap by gap

pub first_gap : (f : ℕ → Bool) (a len : ℕ) (gs : List Gap) (i : ℕ) (d : Gap) → i < length gs → AreGaps f a len (drop i gs) → IsGap f a len (get_or gs i d) × AreGaps f (get_or gs i d).to len (drop (i + 1) gs)
first_gap f a len gs i d lt are = subst (AreGaps f a len) (drop_more gs i d lt) are

pub gap_begins_early : {f : ℕ → Bool} {a len : ℕ} {g : Gap} → IsGap f a len g → len ≤ most_minislots → g.from < 2 ^ 14
gap_begins_early is short = let to = is.to in let within = is.within in omega arith

past : (gs : List Gap) (i : ℕ) → length gs ≤ i → drop i gs ≡ []
past [] zero le = refl
past [] (suc i) le = refl
past (g ∷ gs) zero le = absurd (omega arith)
past (g ∷ gs) (suc i) le = past gs i (omega arith)

-- all behind the last gap is held
pub behind_gaps : (f : ℕ → Bool) (a len : ℕ) (gs : List Gap) (i : ℕ) → length gs ≤ i → AreGaps f a len (drop i gs) → (x : ℕ) → a ≤ x → x < len → f x ≡ false
behind_gaps f a len gs i le are = subst (AreGaps f a len) (past gs i le) are
