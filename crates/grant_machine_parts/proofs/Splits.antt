-- A gap that is split in its place, and gaps that are passed over.
use Rattle.std.proofs.Common.{◌≡◌, ℕ, zero, suc, ◌+◌, ◌<◌, ◌≤◌, Bool, true, false, cond, ◌&&◌, ◌||◌, max, List, [], ◌∷◌}
use Rattle.std.proofs.Common.{◌++◌, length, take, drop, Some, None, slice_get, slice_set, slice_index_or, refl, sym, ap}
use Rattle.std.proofs.Common.{subst, ◌∙◌, arith, leb, ltb}
use Rattle.std.specs.List.{list_any, insert}
use Rattle.std.proofs.lemmas.Bool.{lt-ltb, le-ltb, le-leb, lt-leb, leb-true}
use Rattle.std.proofs.lemmas.Option.{slice_get_read, slice_get_within}
use Rattle.grant_machine_parts.specs.Gaps.{Gap, AreGaps, covers, left_of, right_of, carved_gap, carved, gap_in}
use Rattle.grant_machine_parts.specs.Gaps.{HasPassed, IsInGap}

-- ---- what is put in the place of a gap

-- the gap that was read
pub same_gap : (gs : List Gap) (i : ℕ) (r g : Gap) → r ≡ slice_index_or gs i r → slice_get gs i ≡ Some g → r ≡ g
same_gap gs i r g is at =
    let read : slice_get gs i ≡ Some r = slice_get_read gs _ i r refl (slice_get_within gs i g at) is in
    cc

pub is_in : (gs : List Gap) (i from to : ℕ) (g : Gap) → IsInGap gs i from to → slice_get gs i ≡ Some g → (g.from ≤ from) × (from < to) × (to ≤ g.to)
is_in gs i from to g p at =
    let same : p.0 ≡ g = cc in
    (subst (λ (y : Gap). y.from ≤ from) same p.2, p.3, subst (λ (y : Gap). to ≤ y.to) same p.4)

pub two_put : (gs : List Gap) (i : ℕ) (g l r : Gap) → slice_get gs i ≡ Some g → slice_set (insert gs i l) (suc i) r ≡ take i gs ++ (l ∷ r ∷ drop (suc i) gs)
two_put [] i g l r at = absurd cc
two_put (x ∷ xs) zero g l r at = refl
two_put (x ∷ xs) (suc i) g l r at = ap (λ (ys : List Gap). x ∷ ys) (two_put xs i g l r at)

pub one_put : (gs : List Gap) (i : ℕ) (g l : Gap) → slice_get gs i ≡ Some g → slice_set gs i l ≡ take i gs ++ (l ∷ drop (suc i) gs)
one_put [] i g l at = absurd cc
one_put (x ∷ xs) zero g l at = refl
one_put (x ∷ xs) (suc i) g l at = ap (λ (ys : List Gap). x ∷ ys) (one_put xs i g l at)

module _ (g : Gap) (from to : ℕ) (rises : from < to) where
  pub two_left : g.from < from → to < g.to → carved_gap from to g ≡ record { from = g.from; to = from } ∷ record { from = to; to = g.to } ∷ []
  two_left p q = rw (lt-ltb g.from to (omega arith), lt-ltb from g.to (omega arith), lt-ltb from to rises, lt-ltb g.from from p, lt-ltb to g.to q) refl

  pub first_left : g.from < from → g.to ≤ to → to ≤ g.to → carved_gap from to g ≡ record { from = g.from; to = from } ∷ []
  first_left p q le = rw (lt-ltb g.from to (omega arith), lt-ltb from g.to (omega arith), lt-ltb from to rises, lt-ltb g.from from p, le-ltb to g.to q) refl

  pub second_left : from ≤ g.from → g.from ≤ from → to < g.to → carved_gap from to g ≡ record { from = to; to = g.to } ∷ []
  second_left p le q = rw (lt-ltb g.from to (omega arith), lt-ltb from g.to (omega arith), lt-ltb from to rises, le-ltb g.from from p, lt-ltb to g.to q) refl

  pub none_left : from ≤ g.from → g.from ≤ from → g.to ≤ to → to ≤ g.to → carved_gap from to g ≡ []
  none_left p le q more = rw (lt-ltb g.from to (omega arith), lt-ltb from g.to (omega arith), lt-ltb from to rises, le-ltb g.from from p, le-ltb to g.to q) refl

-- ---- gaps by offset

-- a gap begins no earlier than what stands before it, and ends no earlier than it
later_from : (free : ℕ → Bool) (a len : ℕ) (gs : List Gap) (i : ℕ) (g : Gap) → AreGaps free a len gs → slice_get gs i ≡ Some g → (a ≤ g.from) × (g.from ≤ g.to)
later_from free a len [] i g are at = absurd cc
later_from free a len (x ∷ xs) zero g are at = let same : x ≡ g = cc in subst (λ (y : Gap). (a ≤ y.from) × (y.from ≤ y.to)) same (are.0.from, are.0.to)
later_from free a len (x ∷ xs) (suc i) g are at =
    let rest = later_from free x.to len xs i g are.1 at in
    let from = are.0.from in
    let to = are.0.to in
    (omega (arith, rest.0, from, to), rest.1)

-- a gap that stands before or behind held minislots is left
gap_before : (from to : ℕ) (g : Gap) → g.to ≤ from → carved_gap from to g ≡ g ∷ []
gap_before from to g le = ap (λ b. cond (ltb g.from to && b && ltb from to) (left_of from to g ++ right_of from to g) (g ∷ [])) (le-ltb from g.to le) ∙ by (ltb g.from to)
  where
    by : (b : Bool) → cond (b && false && ltb from to) (left_of from to g ++ right_of from to g) (g ∷ []) ≡ g ∷ []
    by true = refl
    by false = refl

gap_behind : (from to : ℕ) (g : Gap) → to ≤ g.from → carved_gap from to g ≡ g ∷ []
gap_behind from to g le = rw (le-ltb g.from to le) refl

carved_behind : (free : ℕ → Bool) (a len from to : ℕ) (gs : List Gap) → AreGaps free a len gs → to ≤ a → carved from to gs ≡ gs
carved_behind free a len from to [] are le = refl
carved_behind free a len from to (x ∷ xs) are le =
    let first = are.0.from in
    let ends = are.0.to in
    rw (gap_behind from to x (omega arith)) (ap (λ (ys : List Gap). x ∷ ys) (carved_behind free x.to len from to xs are.1 (omega arith)))

pub carved_split : (free : ℕ → Bool) (a len from to : ℕ) (gs : List Gap) (i : ℕ) (g : Gap) → AreGaps free a len gs → slice_get gs i ≡ Some g → g.from ≤ from → to ≤ g.to → take i gs ++ (carved_gap from to g ++ drop (suc i) gs) ≡ carved from to gs
carved_split free a len from to [] i g are at p q = absurd cc
carved_split free a len from to (x ∷ xs) zero g are at p q =
    let same : g ≡ x = cc in
    let ends : g.to ≡ x.to = ap (λ (y : Gap). y.to) same in
    ap (λ (y : Gap). carved_gap from to y ++ xs) same ∙ ap (λ (ys : List Gap). carved_gap from to x ++ ys) (sym (carved_behind free x.to len from to xs are.1 (omega arith)))
carved_split free a len from to (x ∷ xs) (suc i) g are at p q =
    let first = (later_from free x.to len xs i g are.1 at).0 in
    rw (gap_before from to x (omega arith)) (ap (λ (ys : List Gap). x ∷ ys) (carved_split free x.to len from to xs i g are.1 at p q))

pub in_gap_covered : (from to : ℕ) (gs : List Gap) (i : ℕ) (g : Gap) → slice_get gs i ≡ Some g → g.from ≤ from → to ≤ g.to → list_any (covers from to) gs ≡ true
in_gap_covered from to [] i g at p q = absurd cc
in_gap_covered from to (x ∷ xs) zero g at p q =
    let same : g ≡ x = cc in
    let starts : x.from ≤ from = subst (λ (y : Gap). y.from ≤ from) same p in
    let ends : to ≤ x.to = subst (λ (y : Gap). to ≤ y.to) same q in
    rw (le-leb x.from from starts, le-leb to x.to ends) refl
in_gap_covered from to (x ∷ xs) (suc i) g at p q = by (covers from to x) (in_gap_covered from to xs i g at p q)
  where
    by : (b : Bool) → list_any (covers from to) xs ≡ true → (b || list_any (covers from to) xs) ≡ true
    by true h = refl
    by false h = h

-- ---- a search that passes gaps over

late : (gs : List Gap) (n first behind : ℕ) → behind ≤ first → gap_in gs n first behind ≡ None
late [] n first behind le = refl
late (x ∷ xs) n first behind le = rw (le-leb behind (max x.from first) (omega arith)) refl

-- a gap that ends before the first offset has none
pass : (x : Gap) (gs : List Gap) (n first behind : ℕ) → 1 ≤ n → x.from ≤ x.to → x.to ≤ first → gap_in (x ∷ gs) n first behind ≡ gap_in gs n first behind
pass x gs n first behind some rises le = by (leb behind (max x.from first)) refl
  where
    short : leb (max x.from first + n) x.to ≡ false
    short = lt-leb (max x.from first + n) x.to (omega arith)

    by : (b : Bool) → leb behind (max x.from first) ≡ b → cond b None (cond (leb (max x.from first + n) x.to) (Some (max x.from first)) (gap_in gs n first behind)) ≡ gap_in gs n first behind
    by true e = let over : behind ≤ max x.from first = leb-true behind (max x.from first) e in sym (late gs n first behind (omega arith))
    by false e = rw short refl

-- the first gap ends no later than one behind it
ends_by : (free : ℕ → Bool) (a len : ℕ) (x : Gap) (xs : List Gap) (i : ℕ) (g : Gap) → AreGaps free a len (x ∷ xs) → slice_get (x ∷ xs) i ≡ Some g → x.to ≤ g.to
ends_by free a len x xs zero g are at = let same : x ≡ g = cc in let ends : x.to ≡ g.to = ap (λ (y : Gap). y.to) same in omega arith
ends_by free a len x xs (suc i) g are at = let rest = later_from free x.to len xs i g are.1 at in omega (arith, rest.0, rest.1)

-- there is an item at each place
pub item_at : {X : Type 0} (xs : List X) (i : ℕ) → i < length xs → (x : X) × (slice_get xs i ≡ Some x)
item_at [] i lt = absurd (omega arith)
item_at (x ∷ xs) zero lt = (x, refl)
item_at (x ∷ xs) (suc i) lt = item_at xs i (omega arith)

pub passed_over : (free : ℕ → Bool) (a len : ℕ) (gs : List Gap) (n first behind count : ℕ) → AreGaps free a len gs → 1 ≤ n → count ≤ length gs → HasPassed gs count first → gap_in (drop count gs) n first behind ≡ gap_in gs n first behind
passed_over free a len gs n first behind zero are some le passed = refl
passed_over free a len [] n first behind (suc c) are some le passed = refl
passed_over free a len (x ∷ xs) n first behind (suc c) are some le passed =
    let last = item_at (x ∷ xs) c (omega arith) in
    let by = passed c last.0 refl last.1 in
    let ends = ends_by free a len x xs c last.0 are last.1 in
    passed_over free x.to len xs n first behind c are.1 some (omega arith) (λ k g next at. passed (suc k) g (ap suc next) at)
    ∙ sym (pass x xs n first behind some are.0.to (omega arith))
