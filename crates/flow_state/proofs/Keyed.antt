-- Entries whose keys stand in their values too, and the list of what the values mean.
use Rattle.std.proofs.Common.{◌≡◌, ℕ, true, false, cond, not, filter, List, [], ◌∷◌, map, Some, None, refl, sym, ap}
use Rattle.std.proofs.Common.{subst, ◌∙◌, eqb, nat_eq, arith}
use Rattle.std.specs.List.{AllByRecursion, IsDistinct, find}
use Rattle.std.specs.Option.{option_map}
use Rattle.std.specs.Map.{set_value, lookup, remove_entry, keys_of}
use Rattle.std.proofs.lemmas.Bool.{eqb-true}

pub eqb_sym : (a b : ℕ) → eqb a b ≡ eqb b a
eqb_sym a b = grind arith

-- what holds of each entry holds after a value is written that keeps it
pub All-set_value : {X : Type 0} (P : ℕ × X → Type 0) (es : List (ℕ × X)) (n : ℕ) (x w : X) → AllByRecursion P es → lookup (nat_eq n) es ≡ Some x
    → ((k : ℕ) → P (k, x) → P (k, w)) → AllByRecursion P (set_value (nat_eq n) es w)
All-set_value P [] n x w all e keeps = absurd cc
All-set_value {X} P (y ∷ es) n x w all e keeps =
    elim (nat_eq n y.0) as (λ b. cond b (Some y.1) (lookup (nat_eq n) es) ≡ Some x → AllByRecursion P (cond b ((y.0, w) ∷ es) (y ∷ set_value (nat_eq n) es w))) [
      | true ↦ λ f. let same : y.1 ≡ x = cc in (keeps y.0 (subst (λ (u : X). P (y.0, u)) same all.0), all.1)
      | false ↦ λ f. (all.0, All-set_value P es n x w all.1 f keeps)
    ] e

-- what holds of each entry holds after one is taken out
pub All-remove_entry : {X : Type 0} (P : ℕ × X → Type 0) (es : List (ℕ × X)) (n : ℕ) → AllByRecursion P es → AllByRecursion P (remove_entry (nat_eq n) es)
All-remove_entry P [] n all = tt
All-remove_entry P (y ∷ es) n all =
    elim (nat_eq n y.0) as (λ b. AllByRecursion P (cond b es (y ∷ remove_entry (nat_eq n) es))) [ true ↦ all.1 | false ↦ (all.0, All-remove_entry P es n all.1) ]

module _ {X Y : Type 0} (v : X → Y) (key : Y → ℕ) where
  -- what the values mean, in order
  abbrev pub seen : List (ℕ × X) → List Y
  seen es = map (λ e. v e.1) es

  -- each value has its key
  abbrev pub AreKeyed : List (ℕ × X) → Type 0
  AreKeyed es = AllByRecursion (λ e. key (v e.1) ≡ e.0) es

  key_is : (e : ℕ × X) (n : ℕ) → key (v e.1) ≡ e.0 → eqb (key (v e.1)) n ≡ nat_eq n e.0
  key_is e n h = ap (λ i. eqb i n) h ∙ eqb_sym e.0 n

  pub seen_found : (es : List (ℕ × X)) (n : ℕ) → AreKeyed es → find (λ y. eqb (key y) n) (seen es) ≡ option_map v (lookup (nat_eq n) es)
  seen_found [] n keyed = refl
  seen_found (e ∷ es) n keyed =
      rw (key_is e n keyed.0, seen_found es n keyed.1)
      (elim (nat_eq n e.0) as (λ b. cond b (Some (v e.1)) (option_map v (lookup (nat_eq n) es)) ≡ option_map v (cond b (Some e.1) (lookup (nat_eq n) es))) [ true ↦ refl | false ↦ refl ])

  -- the list with what has the key changed
  abbrev pub changed : List Y → ℕ → (Y → Y) → List Y
  changed ys n change = map (λ y. cond (eqb (key y) n) (change y) y) ys

  -- no later entry has the key
  none_later : (es : List (ℕ × X)) (n : ℕ) (change : Y → Y) → AreKeyed es → AllByRecursion (λ k. nat_eq n k ≡ false) (keys_of es) → changed (seen es) n change ≡ seen es
  none_later [] n change keyed none = refl
  none_later (e ∷ es) n change keyed none =
      rw (key_is e n keyed.0, none.0, none_later es n change keyed.1 none.1) refl

  -- nothing changes where the key is absent
  pub seen_absent : (es : List (ℕ × X)) (n : ℕ) (change : Y → Y) → AreKeyed es → lookup (nat_eq n) es ≡ None → changed (seen es) n change ≡ seen es
  seen_absent [] n change keyed none = refl
  seen_absent (e ∷ es) n change keyed none =
      rw (key_is e n keyed.0)
      (elim (nat_eq n e.0) as (λ b. cond b (Some e.1) (lookup (nat_eq n) es) ≡ None → cond b (change (v e.1)) (v e.1) ∷ changed (seen es) n change ≡ seen (e ∷ es)) [
        | true ↦ λ h. absurd cc
        | false ↦ λ h. ap (λ (r : List Y). v e.1 ∷ r) (seen_absent es n change keyed.1 h)
      ] none)

  others : (es : List (ℕ × X)) (n k : ℕ) → nat_eq n k ≡ true → AllByRecursion (λ j. nat_eq k j ≡ false) (keys_of es) → AllByRecursion (λ j. nat_eq n j ≡ false) (keys_of es)
  others es n k h apart = subst (λ i. AllByRecursion (λ j. nat_eq i j ≡ false) (keys_of es)) (sym (eqb-true _ _ h)) apart

  -- what the values mean after one is written through its key
  pub seen_written : (es : List (ℕ × X)) (n : ℕ) (x w : X) (change : Y → Y) → AreKeyed es → IsDistinct nat_eq (keys_of es)
      → lookup (nat_eq n) es ≡ Some x → v w ≡ change (v x) → seen (set_value (nat_eq n) es w) ≡ changed (seen es) n change
  unfolding IsDistinct
  seen_written [] n x w change keyed apart e is = absurd cc
  seen_written (y ∷ es) n x w change keyed apart e is =
      rw (key_is y n keyed.0)
      (elim (nat_eq n y.0) as (λ b. nat_eq n y.0 ≡ b → cond b (Some y.1) (lookup (nat_eq n) es) ≡ Some x → seen (cond b ((y.0, w) ∷ es) (y ∷ set_value (nat_eq n) es w)) ≡ cond b (change (v y.1)) (v y.1) ∷ changed (seen es) n change) [
        | true ↦ λ h f.
            let same : y.1 ≡ x = cc in
            let first : v w ≡ change (v y.1) = is ∙ ap (λ u. change (v u)) (sym same) in
            ap (λ (u : Y). u ∷ seen es) first ∙ ap (λ (r : List Y). change (v y.1) ∷ r) (sym (none_later es n change keyed.1 (others es n y.0 h apart.0)))
        | false ↦ λ h f. ap (λ (r : List Y). v y.1 ∷ r) (seen_written es n x w change keyed.1 apart.1 f is)
      ] refl e)

  none_dropped : (es : List (ℕ × X)) (n : ℕ) → AreKeyed es → AllByRecursion (λ k. nat_eq n k ≡ false) (keys_of es) → filter (λ y. not (eqb (key y) n)) (seen es) ≡ seen es
  none_dropped [] n keyed none = refl
  none_dropped (e ∷ es) n keyed none =
      rw (key_is e n keyed.0, none.0, none_dropped es n keyed.1 none.1) refl

  -- what the values mean after one is taken out by its key
  pub seen_removed : (es : List (ℕ × X)) (n : ℕ) → AreKeyed es → IsDistinct nat_eq (keys_of es) → seen (remove_entry (nat_eq n) es) ≡ filter (λ y. not (eqb (key y) n)) (seen es)
  unfolding IsDistinct
  seen_removed [] n keyed apart = refl
  seen_removed (y ∷ es) n keyed apart =
      rw (key_is y n keyed.0)
      (elim (nat_eq n y.0) as (λ b. nat_eq n y.0 ≡ b → seen (cond b es (y ∷ remove_entry (nat_eq n) es)) ≡ cond (not b) (v y.1 ∷ filter (λ u. not (eqb (key u) n)) (seen es)) (filter (λ u. not (eqb (key u) n)) (seen es))) [
        | true ↦ λ h. sym (none_dropped es n keyed.1 (others es n y.0 h apart.0))
        | false ↦ λ h. ap (λ (r : List Y). v y.1 ∷ r) (seen_removed es n keyed.1 apart.1)
      ] refl)
