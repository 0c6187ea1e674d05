-- Which transmissions have wedges below a MAP, and which collide.
use Rattle.std.proofs.Common.{◌≡◌, ℕ, zero, suc, ◌+◌, ◌<◌, ◌≤◌, Bool, true, false, List, ◌++◌, length, get_or, Option}
use Rattle.std.proofs.Common.{Some, None, Result, OnOk, inl, inr, refl, sym, ap, subst, ◌∙◌, arith}
use Rattle.std.specs.List.{AllWithin, slice_get}
use Rattle.std.proofs.lemmas.Bool.{and_left, and_right, cases_lt, cond-false, cond-true, le-ltb, lt-leb, ne_eqb}
use Rattle.std.proofs.lemmas.List.{append-nil}
use Rattle.std.proofs.lemmas.List.Elements.{All-from_all_within}
use Rattle.std.proofs.lemmas.List.Folds.{list_any_none}
use Rattle.std.proofs.lemmas.Option.{get_or_from_slice_get, slice_get_within}
use Rattle.xml_text.specs.Xml.{Xml, join, render}
use Rattle.xml_text.specs.Xml.Xml.{Nothing, Hollow, Saying, Holding}
use Rattle.xml_text.specs.Each.{each}
use Rattle.map_picture.specs.declared.cells.Strip.{Strip}
use Rattle.map_picture.specs.declared.sent.Sent.{Sent}
use Rattle.map_picture.specs.Wedges.{collides, is_in, meets, slot_of, wedge, wedge_at, wedge_for, wedges, AreBefore}

-- ---- nothing is drawn

join_nothing : (a : Xml) → join a Nothing ≡ a
join_nothing Nothing = refl
join_nothing (Hollow tag rest) = ap (Hollow tag) (join_nothing rest)
join_nothing (Saying tag text rest) = ap (Saying tag text) (join_nothing rest)
join_nothing (Holding tag inside rest) = ap (Holding tag inside) (join_nothing rest)

-- by the first so many
none_drawn : (f : ℕ → Xml) (n : ℕ) → ((j : ℕ) → j < n → f j ≡ Nothing) → each n f ≡ Nothing
none_drawn f zero none = refl
none_drawn f (suc n) none =
    let before : each n f ≡ Nothing = none_drawn f n (λ j lt. none j (omega (arith, lt))) in
    ap (λ x. join x (f n)) before ∙ none n (omega arith)

-- from a number on
no_more_drawn : (f : ℕ → Xml) (m n : ℕ) → m ≤ n → ((j : ℕ) → m ≤ j → f j ≡ Nothing) → each n f ≡ each m f
no_more_drawn f m zero le none = let is : zero ≡ m = omega (arith, le) in ap (λ k. each k f) is
no_more_drawn f m (suc n) le none = elim (cases_lt n m) [
  | inl below ↦ let is : suc n ≡ m = omega (arith, le, below) in ap (λ k. each k f) is
  | inr above ↦ ap (λ x. join (each n f) x) (none n above) ∙ join_nothing (each n f) ∙ no_more_drawn f m n above none
]

-- ---- below a MAP

-- an element in the place of one that isn't in the MAP
of_option : (ts : List Sent) (s : Strip) (o : Option Sent) → ((t : Sent) → o ≡ Some t → is_in s t ≡ false) → wedge_for ts s o ≡ Nothing
of_option ts s None out = refl
of_option ts s (Some t) out = cond-false _ _ _ (out t refl)

no_wedge : (ts : List Sent) (s : Strip) (j : ℕ) → ((t : Sent) → slice_get ts j ≡ Some t → is_in s t ≡ false) → wedge_at ts s j ≡ Nothing
no_wedge ts s j out = of_option ts s (slice_get ts j) out

-- that of one in it
pub one_wedge : {T E : Type 0} (r : Result T E) (old new : List ℕ) (ts : List Sent) (s : Strip) (k : ℕ) (t : Sent) (clash : Bool) → slice_get ts k ≡ Some t
    → is_in s t ≡ true → clash ≡ collides ts t → OnOk r (new ≡ old ++ render (wedge clash s t))
    → OnOk r (new ≡ old ++ render (wedge_at ts s k))
one_wedge r old new ts s k t clash there inside is_clash added =
    let here : wedge_at ts s k ≡ wedge (collides ts t) s t = ap (wedge_for ts s) there ∙ cond-true _ _ _ inside in
    subst (λ (x : Xml). OnOk r (new ≡ old ++ render x)) (ap (λ b. wedge b s t) is_clash ∙ sym here) added

is_early : (s : Strip) (t : Sent) → slot_of t < s.start → is_in s t ≡ false
is_early s t early = and_right _ _ (and_left _ _ (lt-leb s.start (slot_of t) early))

is_late : (s : Strip) (t : Sent) → s.start + s.len ≤ slot_of t → is_in s t ≡ false
is_late s t late = and_right _ _ (and_right _ _ (le-ltb (slot_of t) (s.start + s.len) late))

module _ (ts : List Sent) (s : Strip) where
  -- those before the MAP have none
  early : (first : ℕ) → AreBefore s.start first ts → (j : ℕ) → j < first → wedge_at ts s j ≡ Nothing
  early first before j lt = no_wedge ts s j (λ t there.
      is_early s t (subst (λ (u : Sent). slot_of u < s.start) (get_or_from_slice_get ts j t t there) (before.before j t (omega arith) lt)))

  -- nor have those behind it
  late : (past : ℕ) → AreBefore (s.start + s.len) past ts → (j : ℕ) → past ≤ j → wedge_at ts s j ≡ Nothing
  late past before j le = no_wedge ts s j (λ t there.
      is_late s t (subst (λ (u : Sent). s.start + s.len ≤ slot_of u) (get_or_from_slice_get ts j t t there) (before.from j t le (slice_get_within ts j t there))))

  -- so none are drawn yet at the first that may be in it
  pub none_yet : (first : ℕ) (old : List ℕ) → AreBefore s.start first ts → old ≡ old ++ render (each first (wedge_at ts s))
  none_yet first old before =
      let none : each first (wedge_at ts s) ≡ Nothing = none_drawn (wedge_at ts s) first (early first before) in
      sym (append-nil old) ∙ ap (λ x. old ++ render x) (sym none)

  -- and all are at the first behind it
  pub all_wedges : (past k : ℕ) → AreBefore (s.start + s.len) past ts → past ≤ k → each k (wedge_at ts s) ≡ wedges ts s
  all_wedges past k before over =
      let up_to : each k (wedge_at ts s) ≡ each past (wedge_at ts s) = no_more_drawn (wedge_at ts s) past k over (late past before) in
      let whole : wedges ts s ≡ each past (wedge_at ts s) =
      no_more_drawn (wedge_at ts s) past (length ts) before.bound (late past before) in
      up_to ∙ sym whole

-- ---- collisions

apart : (t u : Sent) → (slot_of u ≡ slot_of t → ⊥) → meets t u ≡ false
apart t u other = and_right _ _ (and_left _ _ (ne_eqb (slot_of u) (slot_of t) other))

-- none, where none of those in the same minislot is one
pub no_collision : (ts : List Sent) (t : Sent) (first end k : ℕ) → AreBefore (slot_of t) first ts → AreBefore (slot_of t + 1) end ts → end ≤ k
    → AllWithin (λ u. meets t u ≡ false) ts first k → collides ts t ≡ false
no_collision ts t first end k before behind over none =
    list_any_none (meets t) ts (All-from_all_within (λ u. meets t u ≡ false) ts each_apart)
  where
    each_apart : AllWithin (λ u. meets t u ≡ false) ts 0 (length ts)
    each_apart i d from below = elim (cases_lt i first) [
      | inl sooner ↦
          let less : slot_of (get_or ts i d) < slot_of t = before.before i d (omega arith) sooner in
          apart t (get_or ts i d) (λ same. omega (arith, same, less))
      | inr since ↦ elim (cases_lt i k) [
        | inl within ↦ none i d since within
        | inr past ↦
            let more : slot_of t + 1 ≤ slot_of (get_or ts i d) = behind.from i d (omega (arith, over, past)) below in
            apart t (get_or ts i d) (λ same. omega (arith, same, more))
      ]
    ]
