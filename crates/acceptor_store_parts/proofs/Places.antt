-- Rows by ascending place, and one put among them.
use Rattle.std.proofs.Common.{◌≡◌, inl, inr, ℕ, ◌+◌, ◌<◌, ◌≤◌, List, [], ◌∷◌, ◌++◌, nat_lt, nat_le, refl, sym, ap, ◌∙◌}
use Rattle.std.proofs.Common.{arith, true, false}
use Rattle.acceptor_store_parts.proofs.Words.{AllByRecursion, nat_tests, put, rows_from, put_before, put_here}
use Rattle.acceptor_store_parts.proofs.Words.{put_after, AreRowsFrom}
use Rattle.std.specs.List.{filter}
use Rattle.ballots.proofs.Callers.{in_order}
use Rattle.acceptor_store_parts.proofs.Rising.{IsRisingBy}
use Rattle.acceptor_store_parts.proofs.Filters.{none_below, all_above}

module _ {V : Type 0} where
  pub all_from : (p q : ℕ) (list : List (ℕ × V)) → p < q → AreRowsFrom q list → AllByRecursion (λ (w : ℕ × V). p < w.0) list
  all_from p q [] low rows = tt
  all_from p q (v ∷ list) low rows = (omega (arith, rows.0, low), all_from p (v.0 + 1) list (omega (arith, rows.0, low)) rows.2)

  pub rising : (q : ℕ) (list : List (ℕ × V)) → AreRowsFrom q list → IsRisingBy (λ (w : ℕ × V). w.0) list
  rising q [] rows = tt
  rising q (v ∷ list) rows = (all_from v.0 (v.0 + 1) list (omega arith) rows.2, rising (v.0 + 1) list rows.2)

  module _ (p : ℕ) (value : V) where
    abbrev around : List (ℕ × V) → List (ℕ × V)
    around list = filter (λ (w : ℕ × V). nat_lt w.0 p) list ++ (p, value) ∷ filter (λ (w : ℕ × V). nat_lt p w.0) list

    pub placed_is : (q : ℕ) (list : List (ℕ × V)) → AreRowsFrom q list
        → filter (λ (w : ℕ × V). nat_lt w.0 p) list ++ (p, value) ∷ filter (λ (w : ℕ × V). nat_lt p w.0) list ≡ put list p value
    placed_is q [] rows = refl
    placed_is q (v ∷ list) rows = elim (in_order p v.0) [
      | inl lt ↦
          let le : nat_lt v.0 p ≡ false = grind (arith, nat_tests) in
          let gt : nat_lt p v.0 ≡ true = grind (arith, nat_tests) in
          let all = all_from p (v.0 + 1) list (omega arith) rows.2 in
          let there : (p, value) ∷ v ∷ list ≡ put (v ∷ list) p value = sym (put_before v.0 v.1 list p value lt) in
          let left : around (v ∷ list) ≡ (p, value) ∷ v ∷ list = rw (le, gt, none_below (λ (w : ℕ × V). w.0) p list all, all_above (λ (w : ℕ × V). w.0) p list all) refl in
          left ∙ there
      | inr (inl is) ↦
          let le : nat_lt v.0 p ≡ false = grind (arith, nat_tests) in
          let gt : nat_lt p v.0 ≡ false = grind (arith, nat_tests) in
          let all = all_from p (v.0 + 1) list (omega arith) rows.2 in
          let there : (p, value) ∷ list ≡ put (v ∷ list) p value = ap (λ (k : ℕ). (k, value) ∷ list) is ∙ sym (put_here v.0 v.1 list p value is) in
          let left : around (v ∷ list) ≡ (p, value) ∷ list = rw (le, gt, none_below (λ (w : ℕ × V). w.0) p list all, all_above (λ (w : ℕ × V). w.0) p list all) refl in
          left ∙ there
      | inr (inr gt) ↦
          let le : nat_lt v.0 p ≡ true = grind (arith, nat_tests) in
          let no : nat_lt p v.0 ≡ false = grind (arith, nat_tests) in
          let then : v ∷ put list p value ≡ put (v ∷ list) p value = sym (put_after v.0 v.1 list p value gt) in
          let left : around (v ∷ list) ≡ v ∷ around list = rw (le, no) refl in
          left ∙ (ap (λ ys. v ∷ ys) (placed_is (v.0 + 1) list rows.2) ∙ then)
    ]

  -- all of them are from their first place on
  pub all_rows : (p q : ℕ) (list : List (ℕ × V)) → p ≤ q → AreRowsFrom q list → rows_from list p ≡ list
  all_rows p q [] low rows = refl
  all_rows p q (v ∷ list) low rows =
      let t : nat_le p v.0 ≡ true = grind (arith, nat_tests, rows.0) in
      rw t (ap (λ ys. v ∷ ys) (all_rows p (v.0 + 1) list (omega (arith, rows.0)) rows.2))
