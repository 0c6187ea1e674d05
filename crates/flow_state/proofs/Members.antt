-- Which elements a list has.
use Rattle.std.proofs.Common.{◌≡◌, ◌⊎◌, ℕ, zero, suc, ◌+◌, ◌<◌, ◌≤◌, Bool, true, false, cond, ◌||◌, List, [], ◌∷◌, ◌++◌}
use Rattle.std.proofs.Common.{map, filter, length, Some, None, refl, sym, ap, subst, ◌∙◌, arith, inl, inr, slice_get}
use Rattle.std.proofs.Common.{slice_index_or, Contains}
use Rattle.std.proofs.lemmas.Bool.{false_from_ne_true}
use Rattle.std.specs.List.{list_any, find, flat_map, range_with_len, AllByRecursion}
pub use Rattle.flow_state.specs.Firm.{Has}

module _ {X : Type 0} where
  pub has_at : (xs : List X) (k : ℕ) (x : X) → slice_get xs k ≡ Some x → Has xs x
  has_at [] k x e = absurd cc
  has_at (y ∷ ys) zero x e = inl cc
  has_at (y ∷ ys) (suc k) x e = inr (has_at ys k x e)

  pub place_of : (xs : List X) (x : X) → Has xs x → (k : ℕ) × (slice_get xs k ≡ Some x)
  place_of [] x h = absurd h
  place_of (y ∷ ys) x (inl e) = (0, ap (λ (z : X). Some z) e)
  place_of (y ∷ ys) x (inr h) = let p = place_of ys x h in (suc p.0, p.1)

  -- the same by the word of contracts
  pub contains_at : (xs : List X) (x : X) → Contains xs x → (k : ℕ) × (slice_get xs k ≡ Some x)
  contains_at xs x (k, lt, e) = (k, by xs k lt e)
    where
      by : (ys : List X) (j : ℕ) → j < length ys → slice_index_or ys j x ≡ x → slice_get ys j ≡ Some x
      by [] j l f = absurd (omega arith)
      by (y ∷ ys) zero l f = ap (λ (z : X). Some z) f
      by (y ∷ ys) (suc j) l f = by ys j (omega arith) f

  pub at_contains : (xs : List X) (k : ℕ) (x : X) → slice_get xs k ≡ Some x → Contains xs x
  at_contains [] k x e = absurd cc
  at_contains (y ∷ ys) zero x e = (0, omega arith, cc)
  at_contains (y ∷ ys) (suc k) x e = let c = at_contains ys k x e in (suc c.0, omega (arith, c.1), c.2)

  pub has_left : (xs ys : List X) (x : X) → Has xs x → Has (xs ++ ys) x
  has_left [] ys x h = absurd h
  has_left (z ∷ xs) ys x (inl e) = inl e
  has_left (z ∷ xs) ys x (inr h) = inr (has_left xs ys x h)

  pub has_right : (xs ys : List X) (x : X) → Has ys x → Has (xs ++ ys) x
  has_right [] ys x h = h
  has_right (z ∷ xs) ys x h = inr (has_right xs ys x h)

  pub has_either : (xs ys : List X) (x : X) → Has (xs ++ ys) x → Has xs x ⊎ Has ys x
  has_either [] ys x h = inr h
  has_either (z ∷ xs) ys x (inl e) = inl (inl e)
  has_either (z ∷ xs) ys x (inr h) = elim (has_either xs ys x h) [ inl l ↦ inl (inr l) | inr r ↦ inr r ]

  pub has_pushed : (xs : List X) (y x : X) → Has (xs ++ y ∷ []) x → Has xs x ⊎ (y ≡ x)
  has_pushed xs y x h = elim (has_either xs (y ∷ []) x h) [ inl l ↦ inl l | inr r ↦ elim r [ inl e ↦ inr e | inr none ↦ absurd none ] ]

  pub has_map : {Y : Type 0} (f : Y → X) (ys : List Y) (x : X) → Has (map f ys) x → (y : Y) × Has ys y × (f y ≡ x)
  has_map f [] x h = absurd h
  has_map f (y ∷ ys) x (inl e) = (y, inl refl, e)
  has_map f (y ∷ ys) x (inr h) = let m = has_map f ys x h in (m.0, inr m.1, m.2)

  pub map_has : {Y : Type 0} (f : Y → X) (ys : List Y) (y : Y) → Has ys y → Has (map f ys) (f y)
  map_has f [] y h = absurd h
  map_has f (z ∷ ys) y (inl e) = inl (ap f e)
  map_has f (z ∷ ys) y (inr h) = inr (map_has f ys y h)

  pub has_flat_map : {Y : Type 0} (g : Y → List X) (ys : List Y) (x : X) → Has (flat_map g ys) x → (y : Y) × Has ys y × Has (g y) x
  has_flat_map g [] x h = absurd h
  has_flat_map g (y ∷ ys) x h = elim (has_either (g y) (flat_map g ys) x h) [
    | inl l ↦ (y, inl refl, l)
    | inr r ↦ let m = has_flat_map g ys x r in (m.0, inr m.1, m.2)
  ]

  pub has_all : (P : X → Type 0) (xs : List X) (x : X) → AllByRecursion P xs → Has xs x → P x
  has_all P [] x all h = absurd h
  has_all P (y ∷ ys) x all (inl e) = subst P e all.0
  has_all P (y ∷ ys) x all (inr h) = has_all P ys x all.1 h

  pub all_has : (P : X → Type 0) (xs : List X) → ((x : X) → Has xs x → P x) → AllByRecursion P xs
  all_has P [] each = tt
  all_has P (x ∷ xs) each = (each x (inl refl), all_has P xs (λ y h. each y (inr h)))

module _ {X : Type 0} (p : X → Bool) where
  pub has_filter : (xs : List X) (x : X) → Has (filter p xs) x → Has xs x × (p x ≡ true)
  has_filter [] x h = absurd h
  has_filter (y ∷ ys) x h =
      elim (p y) as (λ b. p y ≡ b → Has (cond b (y ∷ filter p ys) (filter p ys)) x → Has (y ∷ ys) x × (p x ≡ true)) [
        | true ↦ λ on g. elim g [ inl e ↦ (inl e, ap p (sym e) ∙ on) | inr r ↦ let w = has_filter ys x r in (inr w.0, w.1) ]
        | false ↦ λ off g. let w = has_filter ys x g in (inr w.0, w.1)
      ] refl h

  pub filter_has : (xs : List X) (x : X) → Has xs x → p x ≡ true → Has (filter p xs) x
  filter_has [] x h on = absurd h
  filter_has (y ∷ ys) x h on =
      elim (p y) as (λ b. p y ≡ b → Has (cond b (y ∷ filter p ys) (filter p ys)) x) [
        | true ↦ λ t. elim h [ inl e ↦ inl e | inr r ↦ inr (filter_has ys x r on) ]
        | false ↦ λ f. elim h [ inl e ↦ absurd (let at : p y ≡ p x = ap p e in cc) | inr r ↦ filter_has ys x r on ]
      ] refl

  pub filter_empty : (xs : List X) → ((x : X) → Has xs x → p x ≡ false) → filter p xs ≡ []
  filter_empty [] none = refl
  filter_empty (x ∷ xs) none = ap (λ b. cond b (x ∷ filter p xs) (filter p xs)) (none x (inl refl)) ∙ filter_empty xs (λ y h. none y (inr h))

  pub any_has : (xs : List X) → list_any p xs ≡ true → (x : X) × Has xs x × (p x ≡ true)
  any_has [] e = absurd cc
  any_has (y ∷ ys) e =
      elim (p y) as (λ b. p y ≡ b → (b || list_any p ys) ≡ true → (x : X) × Has (y ∷ ys) x × (p x ≡ true)) [
        | true ↦ λ on f. (y, inl refl, on)
        | false ↦ λ off f. let w = any_has ys f in (w.0, inr w.1, w.2)
      ] refl e

  pub has_any : (xs : List X) (x : X) → Has xs x → p x ≡ true → list_any p xs ≡ true
  has_any [] x h on = absurd h
  has_any (y ∷ ys) x (inl e) on = ap (λ b. b || list_any p ys) (ap p e ∙ on)
  has_any (y ∷ ys) x (inr h) on = ap (λ b. p y || b) (has_any ys x h on) ∙ or_true (p y)
    where
      or_true : (b : Bool) → (b || true) ≡ true
      or_true true = refl
      or_true false = refl

  pub none_has : (xs : List X) (x : X) → list_any p xs ≡ false → Has xs x → p x ≡ false
  none_has xs x e h = false_from_ne_true (p x) (λ on. let any = has_any xs x h on in cc)

  pub found_has : (xs : List X) (x : X) → find p xs ≡ Some x → Has xs x × (p x ≡ true)
  found_has [] x e = absurd cc
  found_has (y ∷ ys) x e =
      elim (p y) as (λ b. p y ≡ b → cond b (Some y) (find p ys) ≡ Some x → Has (y ∷ ys) x × (p x ≡ true)) [
        | true ↦ λ on f. let same : y ≡ x = cc in (inl same, ap p (sym same) ∙ on)
        | false ↦ λ off f. let w = found_has ys x f in (inr w.0, w.1)
      ] refl e

  pub has_found : (xs : List X) (x : X) → Has xs x → p x ≡ true → (y : X) × (find p xs ≡ Some y)
  has_found [] x h on = absurd h
  has_found (y ∷ ys) x h on =
      elim (p y) as (λ b. p y ≡ b → (z : X) × (cond b (Some y) (find p ys) ≡ Some z)) [
        | true ↦ λ t. (y, refl)
        | false ↦ λ f. elim h [ inl e ↦ absurd (let at : p y ≡ p x = ap p e in cc) | inr r ↦ has_found ys x r on ]
      ] refl

  pub unfound : (xs : List X) (x : X) → find p xs ≡ None → Has xs x → p x ≡ false
  unfound xs x e h = false_from_ne_true (p x) (λ on. let f = has_found xs x h on in let g : find p xs ≡ Some f.0 = f.1 in cc)

-- what an item between those that pass one test and those that pass another has on either side
pub has_between : {X : Type 0} (p q : X → Bool) (x : X) (xs : List X) (y : X) → Has (filter p xs ++ x ∷ filter q xs) y → (Has xs y × ((p y ≡ true) ⊎ (q y ≡ true))) ⊎ (x ≡ y)
has_between p q x xs y h = elim (has_either (filter p xs) (x ∷ filter q xs) y h) [
  | inl front ↦ let f = has_filter p xs y front in inl (f.0, inl f.1)
  | inr (inl is) ↦ inr is
  | inr (inr back) ↦ let f = has_filter q xs y back in inl (f.0, inr f.1)
]

pub range_has : (a n x : ℕ) → Has (range_with_len a n) x → (a ≤ x) × (x < a + n)
range_has a zero x h = absurd h
range_has a (suc n) x (inl e) = (omega arith, omega arith)
range_has a (suc n) x (inr h) = let w = range_has (a + 1) n x h in (omega (arith, w.0), omega (arith, w.1))
