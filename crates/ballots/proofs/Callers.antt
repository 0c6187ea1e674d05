-- What crates above cite: that what is chosen is one, that quorums meet, and what stands at a place after a row was put among rows.
pub use Rattle.ballots.proofs.OneValue.{agreement}
pub use Rattle.ballots.proofs.Quorums.{quorums_meet}
pub use Rattle.ballots.proofs.Safety.{old_vote}
use Rattle.std.proofs.Common.{◌≡◌, ◌≢◌, ◌⊎◌, inl, inr, ⊎_elim, ℕ, ◌<◌, ◌==◌, List, [], ◌∷◌, Some, refl, sym, ap, subst}
use Rattle.std.proofs.Common.{◌∙◌, cond, arith}
use Rattle.std.specs.declared.cmp.Ordering.TheVariants.{Less, Equal, Greater}
use Rattle.std.specs.Ordering.{nat_cmp, match_ordering, is_eq}
use Rattle.std.proofs.lemmas.Bool.{cases_order, lt-ltb, le-ltb, eq-eqb, ne_eqb}
use Rattle.ballots.specs.Rows.{at, put}
use Rattle.ballots.specs.Voting.{IsIn}

pub in_order : (a b : ℕ) → (a < b) ⊎ ((a ≡ b) ⊎ (b < a))
in_order a b = grind arith

less : (a b : ℕ) → a < b → nat_cmp a b ≡ Less
less a b lt = ap (λ x. cond x Less (cond (a == b) Equal Greater)) (lt-ltb a b lt)

equal : (a : ℕ) → nat_cmp a a ≡ Equal
equal a = ap (λ x. cond x Less (cond (a == a) Equal Greater)) (le-ltb a a (omega arith)) ∙ ap (λ x. cond x Equal Greater) (eq-eqb a a refl)

greater : (a b : ℕ) → b < a → nat_cmp a b ≡ Greater
greater a b gt = ap (λ x. cond x Less (cond (a == b) Equal Greater)) (le-ltb a b (omega arith)) ∙ ap (λ x. cond x Equal Greater) (ne_eqb a b (λ e. omega arith))

module _ {V : Type 0} (q : ℕ) (w : V) (rows : List (ℕ × V)) (p : ℕ) (v : V) where
  pub put_before : p < q → put ((q, w) ∷ rows) p v ≡ (p, v) ∷ (q, w) ∷ rows
  put_before lt = ap (λ o. match_ordering o ((p, v) ∷ (q, w) ∷ rows) ((q, v) ∷ rows) ((q, w) ∷ put rows p v)) (less p q lt)

  pub put_here : p ≡ q → put ((q, w) ∷ rows) p v ≡ (q, v) ∷ rows
  put_here e = ap (λ k. match_ordering (nat_cmp k q) ((p, v) ∷ (q, w) ∷ rows) ((q, v) ∷ rows) ((q, w) ∷ put rows p v)) e ∙ ap (λ o. match_ordering o ((p, v) ∷ (q, w) ∷ rows) ((q, v) ∷ rows) ((q, w) ∷ put rows p v)) (equal q)

  pub put_after : q < p → put ((q, w) ∷ rows) p v ≡ (q, w) ∷ put rows p v
  put_after gt = ap (λ o. match_ordering o ((p, v) ∷ (q, w) ∷ rows) ((q, v) ∷ rows) ((q, w) ∷ put rows p v)) (greater p q gt)

module _ {V : Type 0} (q : ℕ) (w : V) (rows : List (ℕ × V)) (p : ℕ) where
  pub at_before : p < q → at ((q, w) ∷ rows) p ≡ at rows p
  at_before lt = ap (λ o. cond (is_eq o) (Some w) (at rows p)) (less p q lt)

  pub at_here : p ≡ q → at ((q, w) ∷ rows) p ≡ Some w
  at_here e = ap (λ k. cond (is_eq (nat_cmp k q)) (Some w) (at rows p)) e ∙ ap (λ o. cond (is_eq o) (Some w) (at rows p)) (equal q)

  pub at_after : q < p → at ((q, w) ∷ rows) p ≡ at rows p
  at_after gt = ap (λ o. cond (is_eq o) (Some w) (at rows p)) (greater p q gt)

at_there : {V : Type 0} (q : ℕ) (w : V) (rows : List (ℕ × V)) (p : ℕ) → p ≢ q → at ((q, w) ∷ rows) p ≡ at rows p
at_there q w rows p other = elim (cases_order p q) [
  | inl is ↦ absurd (other is)
  | inr (inl before) ↦ at_before q w rows p before
  | inr (inr after) ↦ at_after q w rows p after
]

module _ {V : Type 0} where
  pub at_put_same : (rows : List (ℕ × V)) (p : ℕ) (v : V) → at (put rows p v) p ≡ Some v
  at_put_same [] p v = at_here p v [] p refl
  at_put_same (row ∷ rows) p v = elim (cases_order p row.0) [
    | inl is ↦ ap (λ (l : List (ℕ × V)). at l p) (put_here row.0 row.1 rows p v is) ∙ at_here row.0 v rows p is
    | inr (inl before) ↦ ap (λ (l : List (ℕ × V)). at l p) (put_before row.0 row.1 rows p v before) ∙ at_here p v (row ∷ rows) p refl
    | inr (inr after) ↦ ap (λ (l : List (ℕ × V)). at l p) (put_after row.0 row.1 rows p v after) ∙ at_there row.0 row.1 (put rows p v) p (omega arith) ∙ at_put_same rows p v
  ]

  pub at_put_other : (rows : List (ℕ × V)) (p : ℕ) (v : V) (j : ℕ) → j ≢ p → at (put rows p v) j ≡ at rows j
  at_put_other [] p v j other = at_there p v [] j other
  at_put_other (row ∷ rows) p v j other = elim (cases_order p row.0) [
    | inl is ↦ ap (λ (l : List (ℕ × V)). at l j) (put_here row.0 row.1 rows p v is) ∙ at_there row.0 v rows j (omega arith) ∙ sym (at_there row.0 row.1 rows j (omega arith))
    | inr (inl before) ↦ ap (λ (l : List (ℕ × V)). at l j) (put_before row.0 row.1 rows p v before) ∙ at_there p v (row ∷ rows) j other
    | inr (inr after) ↦ ap (λ (l : List (ℕ × V)). at l j) (put_after row.0 row.1 rows p v after) ∙ by_row (cases_order j row.0) (at_put_other rows p v j other)
  ]
    where
      by_row : (j ≡ row.0) ⊎ ((j < row.0) ⊎ (row.0 < j)) → at (put rows p v) j ≡ at rows j → at (row ∷ put rows p v) j ≡ at (row ∷ rows) j
      by_row (inl is) rest = at_here row.0 row.1 (put rows p v) j is ∙ sym (at_here row.0 row.1 rows j is)
      by_row (inr (inl before)) rest = at_there row.0 row.1 (put rows p v) j (omega arith) ∙ rest ∙ sym (at_there row.0 row.1 rows j (omega arith))
      by_row (inr (inr after)) rest = at_there row.0 row.1 (put rows p v) j (omega arith) ∙ rest ∙ sym (at_there row.0 row.1 rows j (omega arith))

  pub in_put : (rows : List (ℕ × V)) (p : ℕ) (v : V) (j : ℕ) (x : V) → IsIn (put rows p v) (j, x) → ((j ≡ p) × (x ≡ v)) ⊎ IsIn rows (j, x)
  in_put [] p v j x (inl is) = inl (ap (λ (r : ℕ × V). r.0) is, ap (λ (r : ℕ × V). r.1) is)
  in_put [] p v j x (inr none) = absurd none
  in_put (row ∷ rows) p v j x here = elim (cases_order p row.0) [
    | inl is ↦ equal is (subst (λ (l : List (ℕ × V)). IsIn l (j, x)) (put_here row.0 row.1 rows p v is) here)
    | inr (inl before) ↦ front (subst (λ (l : List (ℕ × V)). IsIn l (j, x)) (put_before row.0 row.1 rows p v before) here)
    | inr (inr after) ↦ back (subst (λ (l : List (ℕ × V)). IsIn l (j, x)) (put_after row.0 row.1 rows p v after) here) (in_put rows p v j x)
  ]
    where
      equal : p ≡ row.0 → IsIn ((row.0, v) ∷ rows) (j, x) → ((j ≡ p) × (x ≡ v)) ⊎ IsIn (row ∷ rows) (j, x)
      equal same (inl is) = inl (ap (λ (r : ℕ × V). r.0) is ∙ sym same, ap (λ (r : ℕ × V). r.1) is)
      equal same (inr there) = inr (inr there)

      front : IsIn ((p, v) ∷ row ∷ rows) (j, x) → ((j ≡ p) × (x ≡ v)) ⊎ IsIn (row ∷ rows) (j, x)
      front (inl is) = inl (ap (λ (r : ℕ × V). r.0) is, ap (λ (r : ℕ × V). r.1) is)
      front (inr there) = inr there

      back : IsIn (row ∷ put rows p v) (j, x) → (IsIn (put rows p v) (j, x) → ((j ≡ p) × (x ≡ v)) ⊎ IsIn rows (j, x)) → ((j ≡ p) × (x ≡ v)) ⊎ IsIn (row ∷ rows) (j, x)
      back (inl is) rest = inr (inl is)
      back (inr there) rest = ⊎_elim (λ h. inl h) (λ h. inr (inr h)) (rest there)

  pub into_put : (rows : List (ℕ × V)) (p : ℕ) (v : V) → IsIn (put rows p v) (p, v)
  into_put [] p v = inl refl
  into_put (row ∷ rows) p v = elim (cases_order p row.0) [
    | inl is ↦ subst (λ (l : List (ℕ × V)). IsIn l (p, v)) (sym (put_here row.0 row.1 rows p v is)) (inl (λ i. (is i, v)))
    | inr (inl before) ↦ subst (λ (l : List (ℕ × V)). IsIn l (p, v)) (sym (put_before row.0 row.1 rows p v before)) (inl refl)
    | inr (inr after) ↦ subst (λ (l : List (ℕ × V)). IsIn l (p, v)) (sym (put_after row.0 row.1 rows p v after)) (inr (into_put rows p v))
  ]

  pub kept_put : (rows : List (ℕ × V)) (p : ℕ) (v : V) (j : ℕ) (x : V) → IsIn rows (j, x) → (j ≡ p) ⊎ IsIn (put rows p v) (j, x)
  kept_put [] p v j x here = absurd here
  kept_put (row ∷ rows) p v j x here = elim (cases_order p row.0) [
    | inl is ↦ equal is here
    | inr (inl before) ↦ inr (subst (λ (l : List (ℕ × V)). IsIn l (j, x)) (sym (put_before row.0 row.1 rows p v before)) (inr here))
    | inr (inr after) ↦ back after here (kept_put rows p v j x)
  ]
    where
      equal : p ≡ row.0 → IsIn (row ∷ rows) (j, x) → (j ≡ p) ⊎ IsIn (put (row ∷ rows) p v) (j, x)
      equal same (inl is) = inl (ap (λ (r : ℕ × V). r.0) is ∙ sym same)
      equal same (inr there) = inr (subst (λ (l : List (ℕ × V)). IsIn l (j, x)) (sym (put_here row.0 row.1 rows p v same)) (inr there))

      back : row.0 < p → IsIn (row ∷ rows) (j, x) → (IsIn rows (j, x) → (j ≡ p) ⊎ IsIn (put rows p v) (j, x)) → (j ≡ p) ⊎ IsIn (put (row ∷ rows) p v) (j, x)
      back after (inl is) rest = inr (subst (λ (l : List (ℕ × V)). IsIn l (j, x)) (sym (put_after row.0 row.1 rows p v after)) (inl is))
      back after (inr there) rest = ⊎_elim (λ h. inl h) (λ h. inr (subst (λ (l : List (ℕ × V)). IsIn l (j, x)) (sym (put_after row.0 row.1 rows p v after)) (inr h))) (rest there)

  pub at_in : (rows : List (ℕ × V)) (p : ℕ) (v : V) → at rows p ≡ Some v → IsIn rows (p, v)
  at_in [] p v is = absurd (cc (is))
  at_in (row ∷ rows) p v is = by_row (cases_order p row.0) (at_in rows p v)
    where
      here : p ≡ row.0 → IsIn (row ∷ rows) (p, v)
      here same =
          let value : v ≡ row.1 = let e : Some v ≡ Some row.1 = sym is ∙ at_here row.0 row.1 rows p same in cc (e) in
          inl (λ i. (same i, value i))

      by_row : (p ≡ row.0) ⊎ ((p < row.0) ⊎ (row.0 < p)) → (at rows p ≡ Some v → IsIn rows (p, v)) → IsIn (row ∷ rows) (p, v)
      by_row (inl same) rest = here same
      by_row (inr (inl before)) rest = inr (rest (sym (at_there row.0 row.1 rows p (omega arith)) ∙ is))
      by_row (inr (inr after)) rest = inr (rest (sym (at_there row.0 row.1 rows p (omega arith)) ∙ is))
