-- Rows at places of the log, by ascending place.
use Rattle.std.proofs.Common.{◌≡◌, ◌∙◌, Some, refl, ap, inl, inr, ℕ, ◌+◌, ◌≤◌, nat_le, Bool, true, false, List, [], ◌∷◌}
use Rattle.std.proofs.Common.{sym, subst, cond, arith}
use Rattle.std.specs.List.{AllByRecursion}
use Rattle.std.proofs.lemmas.Bool.{le-leb}
use Rattle.ballots.specs.Limits.{IsPlace, IsValue, most_places}
use Rattle.ballots.specs.Rows.{at, put, rows_from}
use Rattle.ballots.proofs.Callers.{in_order, put_before, put_here, put_after, at_before, at_here, at_after}
use Rattle.acceptor.specs.Content.{AreRowsFrom, AreValues}

module _ {V : Type 0} where
  -- they stay so where a row is put
  pub rows_put : (q p : ℕ) (v : V) (rows : List (ℕ × V)) → q ≤ p → p ≤ most_places → AreRowsFrom q rows → AreRowsFrom q (put rows p v)
  rows_put q p v [] from fits are = (from, fits, tt)
  rows_put q p v (row ∷ rows) from fits are = elim (in_order p row.0) [
    | inl lt ↦ subst (AreRowsFrom q) (sym (put_before row.0 row.1 rows p v lt)) (from, fits, (omega arith, are.1, are.2))
    | inr (inl is) ↦ subst (AreRowsFrom q) (sym (put_here row.0 row.1 rows p v is)) are
    | inr (inr gt) ↦ subst (AreRowsFrom q) (sym (put_after row.0 row.1 rows p v gt)) (are.0, are.1, rows_put (row.0 + 1) p v rows (omega arith) fits are.2)
  ]

  -- the rows are at places of the log
  abbrev pub ArePlaces : List (ℕ × V) → Type 0
  ArePlaces rows = AllByRecursion (λ (row : ℕ × V). IsPlace row.0) rows

  -- and so are those from a place on
  pub places_from : (q p : ℕ) (rows : List (ℕ × V)) → 1 ≤ q → AreRowsFrom q rows → ArePlaces (rows_from rows p)
  places_from q p [] low are = tt
  places_from q p (row ∷ rows) low are = kept (nat_le p row.0) (omega (arith, low, are.0), are.1) (places_from (row.0 + 1) p rows (omega arith) are.2)
    where
      kept : (b : Bool) → IsPlace row.0 → ArePlaces (rows_from rows p) → ArePlaces (cond b (row ∷ rows_from rows p) (rows_from rows p))
      kept true here rest = (here, rest)
      kept false here rest = rest

  -- each row is from place 0 on
  pub from_start : (rows : List (ℕ × V)) → rows_from rows 0 ≡ rows
  from_start [] = refl
  from_start (row ∷ rows) = ap (λ (b : Bool). cond b (row ∷ rows_from rows 0) (rows_from rows 0)) (le-leb 0 row.0 (omega arith)) ∙ ap (λ (r : List (ℕ × V)). row ∷ r) (from_start rows)

  -- the first row from a place on is at a place of the log
  pub next_fits : (p k : ℕ) (v : V) (rows more : List (ℕ × V)) → AreRowsFrom 1 rows → rows_from rows p ≡ (k, v) ∷ more → IsPlace k
  next_fits p k v rows more are is = (subst ArePlaces is (places_from 1 p rows (omega arith) are)).0

-- they have values of the log where one of these is put
pub values_put : (p : ℕ) (v : List ℕ) (rows : List (ℕ × List ℕ)) → IsValue v → AreValues rows → AreValues (put rows p v)
values_put p v [] fits are = (fits, tt)
values_put p v (row ∷ rows) fits are = elim (in_order p row.0) [
  | inl lt ↦ subst AreValues (sym (put_before row.0 row.1 rows p v lt)) (fits, are)
  | inr (inl is) ↦ subst AreValues (sym (put_here row.0 row.1 rows p v is)) (fits, are.1)
  | inr (inr gt) ↦ subst AreValues (sym (put_after row.0 row.1 rows p v gt)) (are.0, values_put p v rows fits are.1)
]

-- a value of theirs at a place is one of the log
pub value_fits : (p : ℕ) (v : List ℕ) (rows : List (ℕ × List ℕ)) → AreValues rows → at rows p ≡ Some v → IsValue v
value_fits p v [] are is = absurd (cc (is))
value_fits p v (row ∷ rows) are is = elim (in_order p row.0) [
  | inl lt ↦ value_fits p v rows are.1 (sym (at_before row.0 row.1 rows p lt) ∙ is)
  | inr (inl here) ↦ let same : row.1 ≡ v = let some : Some row.1 ≡ Some v = sym (at_here row.0 row.1 rows p here) ∙ is in cc (some) in subst IsValue same are.0
  | inr (inr gt) ↦ value_fits p v rows are.1 (sym (at_after row.0 row.1 rows p gt) ∙ is)
]

values_from : (p : ℕ) (rows : List (ℕ × List ℕ)) → AreValues rows → AreValues (rows_from rows p)
values_from p [] are = tt
values_from p (row ∷ rows) are = kept (nat_le p row.0) (values_from p rows are.1)
  where
    kept : (b : Bool) → AreValues (rows_from rows p) → AreValues (cond b (row ∷ rows_from rows p) (rows_from rows p))
    kept true rest = (are.0, rest)
    kept false rest = rest

-- and so is the first one from a place on
pub next_is_value : (p k : ℕ) (v : List ℕ) (rows more : List (ℕ × List ℕ)) → AreValues rows → rows_from rows p ≡ (k, v) ∷ more → IsValue v
next_is_value p k v rows more are is = (subst AreValues is (values_from p rows are)).0
