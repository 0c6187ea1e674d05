-- Rows by ascending place, and the values that they have without a gap.
use Rattle.std.proofs.Common.{◌≡◌, ◌⊎◌, inl, inr, ℕ, zero, suc, ◌+◌, ◌<◌, ◌≤◌, cond, List, [], ◌∷◌, ◌++◌, length, Some}
use Rattle.std.proofs.Common.{None, slice_get, refl, sym, ap, ◌∙◌, subst, arith}
use Rattle.std.proofs.lemmas.Bool.{cases_order, cases_eq, eq-eqb, ne_eqb}
use Rattle.std.specs.Ordering.{nat_cmp, match_ordering, is_eq}
use Rattle.std.specs.declared.cmp.Ordering.TheVariants.{Less, Equal, Greater}
use Rattle.std.specs.BTreeMap.{insert_entry}
use Rattle.std.specs.Cmp.{nat_cmp_is}
use Rattle.ballots.specs.Limits.{most_places}
use Rattle.command_log.specs.Values.{Rows, values_from}
use Rattle.command_log.specs.View.{AreRows, value_at}

-- nothing stands before the first row
pub none_below : (p q : ℕ) (rows : Rows) → p < q → AreRows q rows → value_at rows p ≡ None
none_below p q [] lt are = refl
none_below p q (row ∷ rows) lt are =
    let before : p < row.0 = omega (arith, are.0) in
    ap (λ o. cond (is_eq o) (Some row.1) (value_at rows p)) (sym (nat_cmp_is p row.0 Less before)) ∙ none_below p (row.0 + 1) rows (omega arith) are.2

at_first : (p : ℕ) (row : ℕ × List ℕ) (rows : Rows) → p ≡ row.0 → value_at (row ∷ rows) p ≡ Some row.1
at_first p row rows is = ap (λ o. cond (is_eq o) (Some row.1) (value_at rows p)) (sym (nat_cmp_is p row.0 Equal is))

past_first : (p : ℕ) (row : ℕ × List ℕ) (rows : Rows) → row.0 < p → value_at (row ∷ rows) p ≡ value_at rows p
past_first p row rows gt = ap (λ o. cond (is_eq o) (Some row.1) (value_at rows p)) (sym (nat_cmp_is p row.0 Greater gt))

-- the values from p on, where the first row stands at p or behind it
pub values_here : (p : ℕ) (row : ℕ × List ℕ) (rows : Rows) → row.0 ≡ p → values_from p (row ∷ rows) ≡ row.1 ∷ values_from (p + 1) rows
values_here p row rows is = ap (λ b. cond b (row.1 ∷ values_from (p + 1) rows) []) (eq-eqb row.0 p is)

values_gap : (p : ℕ) (row : ℕ × List ℕ) (rows : Rows) → p < row.0 → values_from p (row ∷ rows) ≡ []
values_gap p row rows lt = ap (λ b. cond b (row.1 ∷ values_from (p + 1) rows) []) (ne_eqb row.0 p (λ is. omega arith))

-- a value more
pub are_rows_put : (p q : ℕ) (v : List ℕ) (rows : Rows) → AreRows p rows → p ≤ q → q ≤ most_places → AreRows p (insert_entry nat_cmp rows q v)
are_rows_put p q v [] are lo hi = (lo, hi, tt)
are_rows_put p q v (row ∷ rows) are lo hi = by_order (λ gt. are_rows_put (row.0 + 1) q v rows are.2 gt hi) (cases_order q row.0)
  where
    by_order : (row.0 + 1 ≤ q → AreRows (row.0 + 1) (insert_entry nat_cmp rows q v)) → (q ≡ row.0) ⊎ ((q < row.0) ⊎ (row.0 < q)) → AreRows p (insert_entry nat_cmp (row ∷ rows) q v)
    by_order rest (inl is) = subst (λ o. AreRows p (match_ordering o ((q, v) ∷ row ∷ rows) ((row.0, v) ∷ rows) (row ∷ insert_entry nat_cmp rows q v))) (nat_cmp_is q row.0 Equal is) (are.0, are.1, are.2)
    by_order rest (inr (inl lt)) = subst (λ o. AreRows p (match_ordering o ((q, v) ∷ row ∷ rows) ((row.0, v) ∷ rows) (row ∷ insert_entry nat_cmp rows q v))) (nat_cmp_is q row.0 Less lt) (lo, hi, (omega arith, are.1, are.2))
    by_order rest (inr (inr gt)) = subst (λ o. AreRows p (match_ordering o ((q, v) ∷ row ∷ rows) ((row.0, v) ∷ rows) (row ∷ insert_entry nat_cmp rows q v))) (nat_cmp_is q row.0 Greater gt) (are.0, are.1, rest (omega arith))

-- the same value once more
pub put_same : (p q : ℕ) (v : List ℕ) (rows : Rows) → AreRows p rows → value_at rows q ≡ Some v → insert_entry nat_cmp rows q v ≡ rows
put_same p q v [] are is = absurd (cc (is))
put_same p q v (row ∷ rows) are is = by_order (put_same (row.0 + 1) q v rows are.2) (cases_order q row.0)
  where
    by_order : (value_at rows q ≡ Some v → insert_entry nat_cmp rows q v ≡ rows) → (q ≡ row.0) ⊎ ((q < row.0) ⊎ (row.0 < q)) → insert_entry nat_cmp (row ∷ rows) q v ≡ row ∷ rows
    by_order rest (inl same) =
        let found : Some row.1 ≡ Some v = sym (at_first q row rows same) ∙ is in
        let value : v ≡ row.1 = cc in
        ap (λ o. match_ordering o ((q, v) ∷ row ∷ rows) ((row.0, v) ∷ rows) (row ∷ insert_entry nat_cmp rows q v)) (sym (nat_cmp_is q row.0 Equal same)) ∙ ap (λ w. (row.0, w) ∷ rows) value
    by_order rest (inr (inl lt)) =
        let none : value_at (row ∷ rows) q ≡ None = none_below q row.0 (row ∷ rows) lt (omega arith, are.1, are.2) in
        absurd (cc)
    by_order rest (inr (inr gt)) =
        ap (λ o. match_ordering o ((q, v) ∷ row ∷ rows) ((row.0, v) ∷ rows) (row ∷ insert_entry nat_cmp rows q v)) (sym (nat_cmp_is q row.0 Greater gt))
        ∙ ap (λ (es : Rows). row ∷ es) (rest (sym (past_first q row rows gt) ∙ is))

-- the values of the first rows begin those of the second
abbrev Grows : ℕ → Rows → Rows → Type 0
Grows p rows others = (more : List (List ℕ)) × (values_from p others ≡ values_from p rows ++ more)

-- the values without a gap stay a beginning of those after one more value
pub values_grow : (p q : ℕ) (v : List ℕ) (rows : Rows) → AreRows p rows → p ≤ q → value_at rows q ≡ None
    → (more : List (List ℕ)) × (values_from p (insert_entry nat_cmp rows q v) ≡ values_from p rows ++ more)
values_grow p q v [] are lo none = (values_from p ((q, v) ∷ []), refl)
values_grow p q v (row ∷ rows) are lo none = by_order (values_grow (row.0 + 1) q v rows are.2) (cases_order q row.0)
  where
    by_place : (row.0 + 1 ≤ q → value_at rows q ≡ None → Grows (row.0 + 1) rows (insert_entry nat_cmp rows q v)) → row.0 < q → (row.0 ≡ p) ⊎ (row.0 ≡ p → ⊥) → Grows p (row ∷ rows) (row ∷ insert_entry nat_cmp rows q v)
    by_place rest gt (inl is) =
        let grown = rest (omega arith) (sym (past_first q row rows gt) ∙ none) in
        (grown.0, values_here p row (insert_entry nat_cmp rows q v) is ∙ ap (λ (vs : List (List ℕ)). row.1 ∷ vs) (subst (λ n. values_from (n + 1) (insert_entry nat_cmp rows q v) ≡ values_from (n + 1) rows ++ grown.0) is grown.1) ∙ ap (λ (vs : List (List ℕ)). vs ++ grown.0) (sym (values_here p row rows is)))
    by_place rest gt (inr other) = ([], values_gap p row (insert_entry nat_cmp rows q v) (omega (arith, are.0)) ∙ ap (λ (vs : List (List ℕ)). vs ++ []) (sym (values_gap p row rows (omega (arith, are.0)))))

    by_order : (row.0 + 1 ≤ q → value_at rows q ≡ None → Grows (row.0 + 1) rows (insert_entry nat_cmp rows q v)) → (q ≡ row.0) ⊎ ((q < row.0) ⊎ (row.0 < q)) → Grows p (row ∷ rows) (insert_entry nat_cmp (row ∷ rows) q v)
    by_order rest (inl same) =
        let found : value_at (row ∷ rows) q ≡ Some row.1 = at_first q row rows same in
        absurd (cc)
    by_order rest (inr (inl lt)) =
        subst (λ o. Grows p (row ∷ rows) (match_ordering o ((q, v) ∷ row ∷ rows) ((row.0, v) ∷ rows) (row ∷ insert_entry nat_cmp rows q v))) (nat_cmp_is q row.0 Less lt)
        (values_from p ((q, v) ∷ row ∷ rows), ap (λ (vs : List (List ℕ)). vs ++ values_from p ((q, v) ∷ row ∷ rows)) (sym (values_gap p row rows (omega arith))))
    by_order rest (inr (inr gt)) =
        subst (λ o. Grows p (row ∷ rows) (match_ordering o ((q, v) ∷ row ∷ rows) ((row.0, v) ∷ rows) (row ∷ insert_entry nat_cmp rows q v))) (nat_cmp_is q row.0 Greater gt)
        (by_place rest gt (cases_eq row.0 p))

-- value number k of those without a gap is the one at its place, and behind the last there is none
pub value_is_at : (p k : ℕ) (rows : Rows) → AreRows p rows → k ≤ length (values_from p rows) → value_at rows (p + k) ≡ slice_get (values_from p rows) k
value_is_at p k [] are le = refl
value_is_at p k (row ∷ rows) are le = by_place (cases_eq row.0 p) (λ j. value_is_at (row.0 + 1) j rows are.2)
  where
    by_k : row.0 ≡ p → ((j : ℕ) → j ≤ length (values_from (row.0 + 1) rows) → value_at rows (row.0 + 1 + j) ≡ slice_get (values_from (row.0 + 1) rows) j)
        → (j : ℕ) → j ≤ length (values_from p (row ∷ rows)) → value_at (row ∷ rows) (p + j) ≡ slice_get (values_from p (row ∷ rows)) j
    by_k is rest zero few = at_first (p + 0) row rows (omega arith) ∙ ap (λ (vs : List (List ℕ)). slice_get vs 0) (sym (values_here p row rows is))
    by_k is rest (suc j) few =
        let here : values_from p (row ∷ rows) ≡ row.1 ∷ values_from (row.0 + 1) rows = values_here p row rows is ∙ ap (λ n. row.1 ∷ values_from (n + 1) rows) (sym is) in
        let fewer : j ≤ length (values_from (row.0 + 1) rows) = omega (arith, ap length here) in
        let place : p + suc j ≡ row.0 + 1 + j = omega arith in
        past_first (p + suc j) row rows (omega arith)
        ∙ ap (value_at rows) place
        ∙ rest j fewer
        ∙ ap (λ (vs : List (List ℕ)). slice_get vs (suc j)) (sym here)

    by_place : (row.0 ≡ p) ⊎ (row.0 ≡ p → ⊥) → ((j : ℕ) → j ≤ length (values_from (row.0 + 1) rows) → value_at rows (row.0 + 1 + j) ≡ slice_get (values_from (row.0 + 1) rows) j)
        → value_at (row ∷ rows) (p + k) ≡ slice_get (values_from p (row ∷ rows)) k
    by_place (inl is) rest = by_k is rest k le
    by_place (inr other) rest =
        let gap : values_from p (row ∷ rows) ≡ [] = values_gap p row rows (omega (arith, are.0)) in
        let none : k ≡ 0 = omega (arith, ap length gap) in
        none_below (p + k) row.0 (row ∷ rows) (omega (arith, are.0)) (omega arith, are.1, are.2)
        ∙ sym (ap (λ (vs : List (List ℕ)). slice_get vs k) gap ∙ ap (slice_get []) none)

-- there are no more of them than places
pub values_fit : (p : ℕ) (rows : Rows) → AreRows p rows → p ≤ most_places + 1 → length (values_from p rows) + p ≤ most_places + 1
values_fit p [] are le = omega arith
values_fit p (row ∷ rows) are le = by_place (cases_eq row.0 p) (values_fit (row.0 + 1) rows are.2 (omega (arith, are.1)))
  where
    by_place : (row.0 ≡ p) ⊎ (row.0 ≡ p → ⊥) → length (values_from (row.0 + 1) rows) + (row.0 + 1) ≤ most_places + 1 → length (values_from p (row ∷ rows)) + p ≤ most_places + 1
    by_place (inl is) rest = omega (arith, ap length (values_here p row rows is ∙ ap (λ n. row.1 ∷ values_from (n + 1) rows) (sym is)), rest)
    by_place (inr other) rest = omega (arith, ap length (values_gap p row rows (omega (arith, are.0))))
