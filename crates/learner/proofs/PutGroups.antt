-- What is written through a loan of a place's row is put there.
use Rattle.std.proofs.Common.{◌≡◌, inl, inr, ℕ, ◌<◌, cond, List, [], ◌∷◌, Some, None, refl, sym, ap, ◌∙◌, arith}
use Rattle.std.specs.Cmp.{nat_cmp_is}
use Rattle.std.specs.List.Sorted.{IsStrictlySortedBy}
use Rattle.std.specs.Map.{keys_of, set_value}
use Rattle.std.specs.Ordering.{nat_cmp, is_eq}
use Rattle.std.specs.declared.cmp.Ordering.TheVariants.{Less, Equal, Greater}
use Rattle.std.specs.BTreeMap.{is_at}
use Rattle.std.proofs.lemmas.Cmp.{ranked}
use Rattle.std.proofs.lemmas.Map.Keys.{sorted_tail}
use Rattle.ballots.specs.Rows.{at, put}
use Rattle.ballots.proofs.Callers.{in_order, put_here, put_after, at_before, at_after}

first_two : (q p : ℕ) (ks : List ℕ) → IsStrictlySortedBy nat_cmp (q ∷ p ∷ ks) → q < p
unfolding IsStrictlySortedBy
first_two q p ks sorted = ranked q p Less (sym sorted.0.0)

-- no row behind a later place is at p
none_behind : {V : Type 0} (q p : ℕ) (rows : List (ℕ × V)) → p < q → IsStrictlySortedBy nat_cmp (q ∷ keys_of rows) → at rows p ≡ None
none_behind q p [] before sorted = refl
none_behind q p (row ∷ rows) before sorted =
    let next : q < row.0 = first_two q row.0 (keys_of rows) sorted in
    at_before row.0 row.1 rows p (omega arith) ∙ none_behind row.0 p rows (omega arith) (sorted_tail nat_cmp q (row.0 ∷ keys_of rows) sorted)

-- where p has a row, a value written over it is put there
pub set_is_put : {V : Type 0} (rows : List (ℕ × V)) (p : ℕ) (v w : V) → IsStrictlySortedBy nat_cmp (keys_of rows) → at rows p ≡ Some v → set_value (is_at (nat_cmp p)) rows w ≡ put rows p w
set_is_put [] p v w sorted some = absurd (cc (some))
set_is_put (row ∷ rows) p v w sorted some = elim (in_order p row.0) [
  | inl before ↦
      let none : at rows p ≡ None = none_behind row.0 p rows before sorted in
      absurd (cc (some, at_before row.0 row.1 rows p before, none))
  | inr (inl here) ↦ ap (λ o. cond (is_eq o) ((row.0, w) ∷ rows) (row ∷ set_value (is_at (nat_cmp p)) rows w)) (sym (nat_cmp_is p row.0 Equal here)) ∙ sym (put_here row.0 row.1 rows p w here)
  | inr (inr after) ↦
      let later = set_is_put rows p v w (sorted_tail nat_cmp row.0 (keys_of rows) sorted) (sym (at_after row.0 row.1 rows p after) ∙ some) in
      ap (λ o. cond (is_eq o) ((row.0, w) ∷ rows) (row ∷ set_value (is_at (nat_cmp p)) rows w)) (sym (nat_cmp_is p row.0 Greater after)) ∙ ap (λ r. row ∷ r) later ∙ sym (put_after row.0 row.1 rows p w after)
]
