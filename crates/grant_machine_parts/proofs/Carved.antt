-- The gaps between placements: which are left once minislots are held, and the first that is wide enough.
use Rattle.std.proofs.Common.{◌≡◌, ◌⊎◌, ℕ, zero, suc, ◌+◌, ◌-◌, ◌<◌, ◌≤◌, Bool, true, false, cond, not, ◌&&◌, ◌||◌, min}
use Rattle.std.proofs.Common.{max, List, [], ◌∷◌, ◌++◌, Option, Some, None, is_none, IfSome, ⊎_elim, inl, inr, refl}
use Rattle.std.proofs.Common.{sym, ap, subst, ◌∙◌, arith, leb, ltb, append_assoc}
use Rattle.std.specs.List.{find, list_all, list_any, range_with_len, AllByRecursion}
use Rattle.std.proofs.lemmas.Bool.{cases_lt, ltb-true, ltb-false, leb-true, leb-false, lt-ltb, lt-leb, le-leb, le-ltb}
use Rattle.std.proofs.lemmas.Bool.{and_parts, and_right, false_from_ne_true}
use Rattle.minislot_time.specs.Extent.{Extent}
use Rattle.grant_machine_parts.specs.Placing.{Placement, holds, holder, is_free, fits_at, first_fit}
use Rattle.grant_machine_parts.specs.Filling.{PartMap, AreApart}
use Rattle.grant_machine_parts.specs.Gaps.{Gap, IsGap, AreGaps, covers, left_of, right_of, carved, gap_in}
use Rattle.flow_state.proofs.Callers.{Has, all_has, has_all, has_pushed, find_kept}
use Rattle.std.proofs.Math.Bool.{and-true}
use Rattle.grant_machine_parts.proofs.Windows.{FitsAt, fits_tells, first_fit_tells}

-- ---- carving

-- gaps from b on are gaps from a on, where all between is held
sooner : (f : ℕ → Bool) (a b len : ℕ) (gs : List Gap) → a ≤ b → ((x : ℕ) → a ≤ x → x < b → f x ≡ false) → AreGaps f b len gs → AreGaps f a len gs
sooner f a b len [] le held none = λ x ge lt. ⊎_elim (λ (below : x < b). held x ge below) (λ (from : b ≤ x). none x from lt) (cases_lt x b)
sooner f a b len (g ∷ gs) le held are =
    let first = are.0 in (
      record {
        from = let from = first.from in omega arith;
        to = first.to;
        within = first.within;
        before = λ x ge lt. ⊎_elim (λ (below : x < b). held x ge below) (λ (from : b ≤ x). first.before x from lt) (cases_lt x b);
        inside = first.inside;
        behind = first.behind;
      },
      are.1,
    )

-- f', what is free once the minislots between two offsets are held, where f was
module _ (f f' : ℕ → Bool) (from to len : ℕ) (now : (x : ℕ) → from ≤ x → x < to → f' x ≡ false) (else : (x : ℕ) → (x < from) ⊎ (to ≤ x) → f' x ≡ f x) where
  off : (x : ℕ) → f x ≡ false → f' x ≡ false
  off x e = ⊎_elim
      (λ (before : x < from). else x (inl before) ∙ e)
      (λ (ge : from ≤ x). ⊎_elim (λ (lt : x < to). now x ge lt) (λ (behind : to ≤ x). else x (inr behind) ∙ e) (cases_lt x to))
      (cases_lt x from)

  -- a gap that is not carved
  whole : (a : ℕ) (g : Gap) → IsGap f a len g → (to ≤ g.from) ⊎ ((g.to ≤ from) ⊎ (to ≤ from)) → IsGap f' a len g
  whole a g is apart = record {
    from = is.from;
    to = is.to;
    within = is.within;
    before = λ x ge lt. off x (is.before x ge lt);
    inside = λ x ge lt. else x (beside x ge lt apart) ∙ is.inside x ge lt;
    behind = λ lt. off g.to (is.behind lt);
  }
    where
      beside : (x : ℕ) → g.from ≤ x → x < g.to → (to ≤ g.from) ⊎ ((g.to ≤ from) ⊎ (to ≤ from)) → (x < from) ⊎ (to ≤ x)
      beside x ge lt (inl h) = inr (omega arith)
      beside x ge lt (inr (inl h)) = inl (omega arith)
      beside x ge lt (inr (inr h)) = elim (cases_lt x from) [ inl below ↦ inl below | inr above ↦ inr (omega arith) ]

  -- what is left at the right of a gap, and the gaps behind it
  right_are : (a c : ℕ) (g : Gap) (gs : List Gap) → IsGap f a len g → g.from < to → from < g.to → c ≤ to → c ≤ g.to → ((x : ℕ) → c ≤ x → x < to → x < g.to → f' x ≡ false) → AreGaps f' g.to len gs → AreGaps f' c len (right_of from to g ++ gs)
  right_are a c g gs is meets before le end held rest = by (ltb to g.to) refl
    where
      by : (b : Bool) → ltb to g.to ≡ b → AreGaps f' c len (cond b (record { from = to; to = g.to } ∷ []) [] ++ gs)
      by true e =
          let lt : to < g.to = ltb-true to g.to e in (
            record {
              from = le;
              to = omega arith;
              within = is.within;
              before = λ x ge below. held x ge below (omega arith);
              inside = λ x ge below. else x (inr ge) ∙ is.inside x (omega arith) below;
              behind = λ below. off g.to (is.behind below);
            },
            rest,
          )
      by false e =
          let all : g.to ≤ to = ltb-false to g.to e in
          sooner f' c g.to len gs end (λ x ge lt. held x ge (omega arith) lt) rest

  left_are : (a : ℕ) (g : Gap) (gs : List Gap) → IsGap f a len g → g.from < to → from < g.to → from < to → AreGaps f' g.to len gs → AreGaps f' a len (left_of from to g ++ (right_of from to g ++ gs))
  left_are a g gs is meets before rises rest = by (ltb g.from from) refl
    where
      by : (b : Bool) → ltb g.from from ≡ b → AreGaps f' a len (cond b (record { from = g.from; to = from } ∷ []) [] ++ (right_of from to g ++ gs))
      by true e =
          let lt : g.from < from = ltb-true g.from from e in (
            record {
              from = is.from;
              to = omega arith;
              within = let within = is.within in omega arith;
              before = λ x ge below. off x (is.before x ge below);
              inside = λ x ge below. else x (inl below) ∙ is.inside x ge (omega arith);
              behind = λ below. now from (omega arith) rises;
            },
            right_are a from g gs is meets before (omega arith) (omega arith) (λ x ge below end. now x ge below) rest,
          )
      by false e =
          let le : from ≤ g.from = ltb-false g.from from e in
          let start = is.from in
          right_are a a g gs is meets before (omega arith) (omega arith)
          (λ x ge below end. ⊎_elim (λ (early : x < g.from). off x (is.before x ge early)) (λ (late : g.from ≤ x). now x (omega arith) below) (cases_lt x g.from))
          rest

  pub carved_are : (a : ℕ) (gs : List Gap) → AreGaps f a len gs → AreGaps f' a len (carved from to gs)
  carved_are a [] none = λ x ge lt. off x (none x ge lt)
  carved_are a (g ∷ gs) are = by (carved_are g.to gs are.1) (ltb g.from to) (ltb from g.to) (ltb from to) refl refl refl
    where
      assoc : (xs ys zs : List Gap) → AreGaps f' a len (xs ++ (ys ++ zs)) → AreGaps f' a len ((xs ++ ys) ++ zs)
      assoc xs ys zs h = subst (AreGaps f' a len) (sym (append_assoc xs ys zs)) h

      by : AreGaps f' g.to len (carved from to gs) → (b c d : Bool) → ltb g.from to ≡ b → ltb from g.to ≡ c → ltb from to ≡ d → AreGaps f' a len (cond (b && c && d) (left_of from to g ++ right_of from to g) (g ∷ []) ++ carved from to gs)
      by rest true true true p q r = assoc (left_of from to g) (right_of from to g) (carved from to gs) (left_are a g (carved from to gs) are.0 (ltb-true g.from to p) (ltb-true from g.to q) (ltb-true from to r) rest)
      by rest true true false p q r = (whole a g are.0 (inr (inr (ltb-false from to r))), rest)
      by rest true false d p q r = (whole a g are.0 (inr (inl (ltb-false from g.to q))), rest)
      by rest false c d p q r = (whole a g are.0 (inl (ltb-false g.from to p)), rest)

-- a minislot is free after one more placement where it was, and that doesn't hold it
pub free_added : (ps : List Placement) (p : Placement) (x : ℕ) → is_free (ps ++ p ∷ []) x ≡ (is_free ps x && not (holds x p))
free_added [] p x = elim (holds x p) as (λ b. is_none (cond b (Some p) None) ≡ (true && not b)) [ true ↦ refl | false ↦ refl ]
free_added (q ∷ ps) p x = elim (holds x q) as (λ b. is_none (cond b (Some q) (holder (ps ++ p ∷ []) x)) ≡ (is_none (cond b (Some q) (holder ps x)) && not (holds x p))) [ true ↦ refl | false ↦ free_added ps p x ]

-- the gaps after one more placement
pub gaps_added : (ps : List Placement) (p : Placement) (len from to : ℕ) (gs : List Gap) → from ≡ p.offset → to ≡ p.offset + p.size → AreGaps (is_free ps) 0 len gs → AreGaps (is_free (ps ++ p ∷ [])) 0 len (carved from to gs)
gaps_added ps p len from to gs at ends are = carved_are (is_free ps) (is_free (ps ++ p ∷ [])) from to len now else 0 gs are
  where
    held : (x : ℕ) → from ≤ x → x < to → holds x p ≡ true
    held x ge lt = rw (le-leb p.offset x (omega arith), lt-ltb x (p.offset + p.size) (omega arith)) refl

    now : (x : ℕ) → from ≤ x → x < to → is_free (ps ++ p ∷ []) x ≡ false
    now x ge lt = free_added ps p x ∙ ap (λ b. is_free ps x && not b) (held x ge lt) ∙ and_right (is_free ps x) false refl

    beside : (x : ℕ) → (x < from) ⊎ (to ≤ x) → holds x p ≡ false
    beside x (inl before) = ap (λ b. b && ltb x (p.offset + p.size)) (lt-leb p.offset x (omega arith))
    beside x (inr behind) = ap (λ b. leb p.offset x && b) (le-ltb x (p.offset + p.size) (omega arith)) ∙ and_right (leb p.offset x) false refl

    else : (x : ℕ) → (x < from) ⊎ (to ≤ x) → is_free (ps ++ p ∷ []) x ≡ is_free ps x
    else x out = free_added ps p x ∙ ap (λ b. is_free ps x && not b) (beside x out) ∙ and-true (is_free ps x)

-- minislots that a gap covers are free
covered_free : (f : ℕ → Bool) (from to a len : ℕ) (gs : List Gap) → list_any (covers from to) gs ≡ true → AreGaps f a len gs → (x : ℕ) → from ≤ x → x < to → f x ≡ true
covered_free f from to a len [] e are x ge lt = absurd cc
covered_free f from to a len (g ∷ gs) e are x ge lt = by (covered_free f from to g.to len gs) (covers from to g) refl
  where
    by : (list_any (covers from to) gs ≡ true → AreGaps f g.to len gs → (y : ℕ) → from ≤ y → y < to → f y ≡ true) → (c : Bool) → covers from to g ≡ c → f x ≡ true
    by later true h =
        let parts = and_parts (leb g.from from) (leb to g.to) h in
        let first : g.from ≤ from = leb-true g.from from parts.0 in
        let last : to ≤ g.to = leb-true to g.to parts.1 in
        are.0.inside x (omega arith) (omega arith)
    by later false h = later (sym (ap (λ c. c || list_any (covers from to) gs) h) ∙ e) are.1 x ge lt

-- a placement where minislots were free is their holder
last_holds : (ps : List Placement) (p : Placement) (x : ℕ) → is_free ps x ≡ true → holds x p ≡ true → holder (ps ++ p ∷ []) x ≡ Some p
last_holds [] p x free on = ap (λ c. cond c (Some p) None) on
last_holds (q ∷ ps) p x free on =
    elim (holds x q) as (λ c. is_none (cond c (Some q) (holder ps x)) ≡ true → cond c (Some q) (holder (ps ++ p ∷ []) x) ≡ Some p) [ true ↦ λ e. absurd cc | false ↦ λ e. last_holds ps p x e on ] free

-- the placement is the holder of what it holds
abbrev IsHolder : List Placement → Placement → Type 0
IsHolder qs q = (x : ℕ) → holds x q ≡ true → holder qs x ≡ Some q

-- placements are apart with one more, where its minislots were free
pub apart_added : (ps : List Placement) (p : Placement) (len from to : ℕ) (gs : List Gap) (were : Bool) → from ≡ p.offset → to ≡ p.offset + p.size → AreGaps (is_free ps) 0 len gs
    → (were ≡ true → AreApart ps) → (were && list_any (covers from to) gs) ≡ true → AreApart (ps ++ p ∷ [])
apart_added ps p len from to gs were at ends are apart still = all_has (IsHolder (ps ++ p ∷ [])) (ps ++ p ∷ []) (λ q h. each q (has_pushed ps p q h))
  where
    tests : (were ≡ true) × (list_any (covers from to) gs ≡ true)
    tests = and_parts were (list_any (covers from to) gs) still

    held_from : (x : ℕ) → holds x p ≡ true → from ≤ x
    held_from x on = let least : p.offset ≤ x = leb-true p.offset x (and_parts (leb p.offset x) (ltb x (p.offset + p.size)) on).0 in omega arith

    held_below : (x : ℕ) → holds x p ≡ true → x < to
    held_below x on = let below : x < p.offset + p.size = ltb-true x (p.offset + p.size) (and_parts (leb p.offset x) (ltb x (p.offset + p.size)) on).1 in omega arith

    new : (x : ℕ) → holds x p ≡ true → holder (ps ++ p ∷ []) x ≡ Some p
    new x on = last_holds ps p x (covered_free (is_free ps) from to 0 len gs tests.1 are x (held_from x on) (held_below x on)) on

    each : (q : Placement) → Has ps q ⊎ (p ≡ q) → IsHolder (ps ++ p ∷ []) q
    each q (inl old) = λ x on. find_kept (holds x) ps q p (has_all (IsHolder ps) ps q (apart tests.0) old x on)
    each q (inr same) = subst (IsHolder (ps ++ p ∷ [])) same new

-- one gap is all of the minislots where nothing is placed
pub all_free : (len : ℕ) → AreGaps (is_free []) 0 len (record { from = 0; to = len } ∷ [])
all_free len = (
  record { from = omega arith; to = omega arith; within = omega arith; before = λ x ge lt. absurd (omega arith); inside = λ x ge lt. refl; behind = λ lt. absurd (omega arith) },
  λ x ge lt. absurd (omega arith),
)

-- ---- tests of runs

all_in : (f : ℕ → Bool) (x n : ℕ) → ((z : ℕ) → x ≤ z → z < x + n → f z ≡ true) → list_all f (range_with_len x n) ≡ true
all_in f x zero each = refl
all_in f x (suc n) each = rw (each x (omega arith) (omega arith)) (all_in f (x + 1) n (λ z le lt. each z (omega arith) (omega arith)))

not_all_in : (f : ℕ → Bool) (x n z : ℕ) → x ≤ z → z < x + n → f z ≡ false → list_all f (range_with_len x n) ≡ false
not_all_in f x zero z le lt off = absurd (omega arith)
not_all_in f x (suc n) z le lt off = ⊎_elim
    (λ (more : x < z). ap (λ b. f x && b) (not_all_in f (x + 1) n z (omega arith) (omega arith) off) ∙ and_right (f x) false refl)
    (λ (at : z ≤ x). let same : z ≡ x = omega arith in ap (λ b. b && list_all f (range_with_len (x + 1) n)) (ap f (sym same) ∙ off))
    (cases_lt x z)

module _ (span : Extent) (ps : List Placement) (n lo hi last : ℕ) where
  pub run_fits : (x : ℕ) → lo ≤ span.start + x → span.start + x ≤ hi → span.start + x + n ≤ last + 1 → x + n ≤ span.len → ((z : ℕ) → x ≤ z → z < x + n → is_free ps z ≡ true) → fits_at span ps n lo hi last x ≡ true
  run_fits x not_early not_late in_lease within free = rw (le-leb lo (span.start + x) not_early, le-leb (span.start + x) hi not_late, le-leb (span.start + x + n) (last + 1) in_lease, le-leb (x + n) span.len within) (all_in (is_free ps) x n free)

  unfit : (x : ℕ) → (FitsAt span ps n lo hi last x → ⊥) → fits_at span ps n lo hi last x ≡ false
  unfit x never = false_from_ne_true (fits_at span ps n lo hi last x) (λ e. never (fits_tells span ps n lo hi last x e))

  held_unfit : (x z : ℕ) → x ≤ z → z < x + n → is_free ps z ≡ false → fits_at span ps n lo hi last x ≡ false
  held_unfit x z from below held = unfit x (λ f. let on = f.free in let off = not_all_in (is_free ps) x n z from below held in cc)

  early_unfit : (x : ℕ) → span.start + x < lo → fits_at span ps n lo hi last x ≡ false
  early_unfit x lt = unfit x (λ f. let from = f.not_early in omega arith)

  late_unfit : (x : ℕ) → hi < span.start + x → fits_at span ps n lo hi last x ≡ false
  late_unfit x lt = unfit x (λ f. let to = f.not_late in omega arith)

  over_unfit : (x : ℕ) → last + 1 < span.start + x + n → fits_at span ps n lo hi last x ≡ false
  over_unfit x lt = unfit x (λ f. let end = f.in_lease in omega arith)

  long_unfit : (x : ℕ) → span.len < x + n → fits_at span ps n lo hi last x ≡ false
  long_unfit x lt = unfit x (λ f. let end = f.within in omega arith)

-- ---- the search

-- offsets that don't pass are passed over
skip : (f : ℕ → Bool) (len k a : ℕ) → ((y : ℕ) → a ≤ y → y < a + k → f y ≡ false) → find f (range_with_len a (len - a)) ≡ find f (range_with_len (a + k) (len - (a + k)))
skip f len zero a off = let same : a ≡ a + 0 = omega arith in ap (λ b. find f (range_with_len b (len - b))) same
skip f len (suc k) a off =
    let next : a + 1 + k ≡ a + suc k = omega arith in
    one ∙ skip f len k (a + 1) (λ y le lt. off y (omega arith) (omega arith)) ∙ ap (λ b. find f (range_with_len b (len - b))) next
  where
    one : find f (range_with_len a (len - a)) ≡ find f (range_with_len (a + 1) (len - (a + 1)))
    one = ⊎_elim
        (λ (lt : a < len). let m : len - a ≡ suc (len - (a + 1)) = omega arith in rw (m, off a (omega arith) (omega arith)) refl)
        (λ (le : len ≤ a). let none : len - a ≡ 0 = omega arith in let none_later : len - (a + 1) ≡ 0 = omega arith in rw (none, none_later) refl)
        (cases_lt a len)

skip_to : (f : ℕ → Bool) (len a b : ℕ) → a ≤ b → ((y : ℕ) → a ≤ y → y < b → f y ≡ false) → find f (range_with_len a (len - a)) ≡ find f (range_with_len b (len - b))
skip_to f len a b le off = let same : a + (b - a) ≡ b = omega arith in skip f len (b - a) a (λ y ge lt. off y ge (omega arith)) ∙ ap (λ c. find f (range_with_len c (len - c))) same

none_from : (f : ℕ → Bool) (n a : ℕ) → ((y : ℕ) → a ≤ y → y < a + n → f y ≡ false) → find f (range_with_len a n) ≡ None
none_from f zero a off = refl
none_from f (suc n) a off = rw (off a (omega arith) (omega arith)) (none_from f n (a + 1) (λ y le lt. off y (omega arith) (omega arith)))

module _ (start len : ℕ) (ps : List Placement) (n lo hi last : ℕ) where
  abbrev span : Extent
  span = record { start = start; len = len }

  -- what is found from x on, and in the whole MAP
  abbrev pub found_from : ℕ → Option ℕ
  found_from x = find (fits_at (record { start = start; len = len }) ps n lo hi last) (range_with_len x (len - x))

  abbrev pub found : Option ℕ
  found = find (fits_at (record { start = start; len = len }) ps n lo hi last) (range_with_len 0 len)

  -- more minislots than there are fit nowhere
  pub too_long : len < n → found ≡ None
  too_long over = none_from (fits_at span ps n lo hi last) len 0 (λ y ge lt. long_unfit span ps n lo hi last y (omega arith))

  -- the offsets that are neither early, nor late, nor too late for the lease
  pub record AreInTime (first behind : ℕ) : Type 0 where
    pub from : first ≤ len
    pub early : first ≤ lo - start
    pub not_early : (y : ℕ) → first ≤ y → y < len → lo ≤ start + y
    pub most : behind ≤ len
    pub not_late : (y : ℕ) → y < behind → (start + y ≤ hi) × (start + y + n ≤ last + 1)
    pub late : (y : ℕ) → behind ≤ y → y < len → (hi < start + y) ⊎ (last + 1 < start + y + n)

  module _ (first behind : ℕ) (timely : AreInTime first behind) where
    from_first : found ≡ found_from first
    from_first =
        let all : len ≡ len - 0 = omega arith in
        let le = timely.early in
        ap (λ k. find (fits_at span ps n lo hi last) (range_with_len 0 k)) all ∙ skip_to (fits_at span ps n lo hi last) len 0 first (omega arith) (λ y ge lt. early_unfit span ps n lo hi last y (omega arith))

    found_here : (x : ℕ) → first ≤ x → x < behind → x + n ≤ len → ((z : ℕ) → x ≤ z → z < x + n → is_free ps z ≡ true) → found_from x ≡ Some x
    found_here x ge lt within free =
        let most = timely.most in
        let k : len - x ≡ suc (len - (x + 1)) = omega arith in
        rw (k, run_fits span ps n lo hi last x (timely.not_early x ge (omega arith)) (timely.not_late x lt).0 (timely.not_late x lt).1 within free) refl

    found_late : (x : ℕ) → behind ≤ x → found_from x ≡ None
    found_late x ge = none_from (fits_at span ps n lo hi last) (len - x) x (λ y more below. elim (timely.late y (omega arith) (omega arith)) [ inl late ↦ late_unfit span ps n lo hi last y late | inr over ↦ over_unfit span ps n lo hi last y over ])

    -- what fits is what a gap has
    gap_found : 1 ≤ n → (a : ℕ) (gs : List Gap) → AreGaps (is_free ps) a len gs → gap_in gs n first behind ≡ found_from (max a first)
    gap_found some a [] none = sym (none_from (fits_at span ps n lo hi last) (len - max a first) (max a first) (λ y ge lt. held_unfit span ps n lo hi last y y (omega arith) (omega arith) (none y (omega arith) (omega arith))))
    gap_found some a (g ∷ gs) are = sym (before ∙ by (gap_found some g.to gs are.1) (leb behind (max g.from first)) (leb (max g.from first + n) g.to) refl refl)
      where
        before : found_from (max a first) ≡ found_from (max g.from first)
        before = let from = are.0.from in skip_to (fits_at span ps n lo hi last) len (max a first) (max g.from first) (omega arith) (λ y ge lt. held_unfit span ps n lo hi last y y (omega arith) (omega arith) (are.0.before y (omega arith) (omega arith)))

        beyond : g.to < max g.from first + n → found_from (max g.from first) ≡ found_from (max g.to first)
        beyond short = let to = are.0.to in let within = are.0.within in skip_to (fits_at span ps n lo hi last) len (max g.from first) (max g.to first) (omega arith) (λ y ge lt. ⊎_elim
            (λ (inside : g.to < len). held_unfit span ps n lo hi last y g.to (omega arith) (omega arith) (are.0.behind inside))
            (λ (end : len ≤ g.to). long_unfit span ps n lo hi last y (omega arith))
            (cases_lt g.to len))

        by : gap_in gs n first behind ≡ found_from (max g.to first) → (b c : Bool) → leb behind (max g.from first) ≡ b → leb (max g.from first + n) g.to ≡ c → found_from (max g.from first) ≡ cond b None (cond c (Some (max g.from first)) (gap_in gs n first behind))
        by rest true c p q = found_late (max g.from first) (leb-true behind (max g.from first) p)
        by rest false true p q =
            let below : max g.from first < behind = leb-false behind (max g.from first) p in
            let ends : max g.from first + n ≤ g.to = leb-true (max g.from first + n) g.to q in
            let within = are.0.within in
            found_here (max g.from first) (omega arith) below (omega arith) (λ z ge lt. are.0.inside z (omega arith) (omega arith))
        by rest false false p q = beyond (leb-false (max g.from first + n) g.to q) ∙ sym rest

    pub fit_found : 1 ≤ n → (gs : List Gap) → AreGaps (is_free ps) 0 len gs → gap_in gs n first behind ≡ found
    fit_found some gs are = gap_found some 0 gs are ∙ (let same : max 0 first ≡ first = omega arith in ap found_from same) ∙ sym from_first

    -- no minislots fit anywhere in time
    pub none_found : n ≡ 0 → found ≡ cond (ltb first behind) (Some first) None
    none_found none = from_first ∙ by (ltb first behind) refl
      where
        by : (b : Bool) → ltb first behind ≡ b → found_from first ≡ cond b (Some first) None
        by true e = let lt : first < behind = ltb-true first behind e in let most = timely.most in found_here first (omega arith) lt (omega arith) (λ z ge below. absurd (omega arith))
        by false e = found_late first (ltb-false first behind e)

-- ---- a filling

pub all_push : {X : Type 0} (P : X → Type 0) (xs : List X) (x : X) → AllByRecursion P xs → P x → AllByRecursion P (xs ++ x ∷ [])
all_push P [] x all new = (new, tt)
all_push P (y ∷ xs) x all new = (all.0, all_push P xs x all.1 new)

fit_within : (extent : Extent) (ps : List Placement) (n lo hi last : ℕ) (o : Option ℕ) → first_fit extent ps n lo hi last ≡ o → IfSome o (λ x. x + n ≤ extent.len)
fit_within extent ps n lo hi last (Some x) e = (first_fit_tells extent ps n lo hi last x e).within
fit_within extent ps n lo hi last None e = tt

-- a first fit ends within the MAP
pub fit_ends : (v : PartMap) (n lo hi last : ℕ) (o : Option ℕ) → o ≡ first_fit v.span v.placements n lo hi last → IfSome o (λ x. x + n ≤ v.span.len)
fit_ends v n lo hi last o e = fit_within v.span v.placements n lo hi last o (sym e)

-- the offsets that the program looks at
pub in_time : (start len : ℕ) (ps : List Placement) (n lo hi last first behind : ℕ) → first ≡ min (lo - start) len → behind ≤ len
    → ((y : ℕ) → y < behind → (start + y ≤ hi) × (start + y + n ≤ last + 1)) → ((y : ℕ) → behind ≤ y → y < len → (hi < start + y) ⊎ (last + 1 < start + y + n))
    → AreInTime start len ps n lo hi last first behind
in_time start len ps n lo hi last first behind low most not_late late = record {
  from = omega arith;
  early = omega arith;
  not_early = λ y ge lt. omega arith;
  most = most;
  not_late = not_late;
  late = late;
}
