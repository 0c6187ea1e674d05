-- Rows by place, and the values that they have without a gap.
use Rattle.std.proofs.Common.{◌≡◌, ◌≢◌, inl, inr, ℕ, zero, suc, ◌+◌, ◌<◌, ◌≤◌, cond, List, [], ◌∷◌, ◌++◌, length, take}
use Rattle.std.proofs.Common.{Option, Some, None, slice_get, refl, sym, ap, subst, ◌∙◌, arith, length-append}
use Rattle.std.proofs.Common.{length-take}
use Rattle.std.proofs.lemmas.Bool.{cases_eq, ne_eqb}
use Rattle.std.proofs.lemmas.Bool.Decides.{nat_tests}
use Rattle.std.proofs.lemmas.Option.{slice_get_past}
use Rattle.ballots.specs.Limits.{most_places}
use Rattle.ballots.specs.Rows.{at, put}
use Rattle.ballots.proofs.Callers.{at_put_other, at_put_same}
use Rattle.command_log.specs.Values.{Rows, values_from, gapless}
use Rattle.command_log.specs.View.{AreRows}
use Rattle.command_log.proofs.Callers.{none_below, are_rows_put, put_same, values_grow, value_is_at, values_here}
use Rattle.node.specs.Learned.{IsPart, AreLearned}

at_here : (row : ℕ × List ℕ) (rows : Rows) (p : ℕ) → p ≡ row.0 → at (row ∷ rows) p ≡ Some row.1
at_here row rows p is = grind (arith, nat_tests)

at_there : (row : ℕ × List ℕ) (rows : Rows) (p : ℕ) → p ≢ row.0 → at (row ∷ rows) p ≡ at rows p
at_there row rows p is = grind (arith, nat_tests)

-- a value that stands in the second is put into the first
pub part_put : (first second : Rows) (p : ℕ) (v : List ℕ) → IsPart first second → at second p ≡ Some v → IsPart (put first p v) second
part_put first second p v part here q w is = elim (cases_eq q p) [
  | inl same ↦ let told : Some v ≡ Some w = sym (at_put_same first p v) ∙ ap (at (put first p v)) (sym same) ∙ is in ap (at second) same ∙ here ∙ told
  | inr other ↦ part q w (sym (at_put_other first p v q other) ∙ is)
]

-- a value more in the second
pub part_grows : (first second : Rows) (p : ℕ) (v : List ℕ) → IsPart first second → at second p ≡ None → IsPart first (put second p v)
part_grows first second p v part none q w is = elim (cases_eq q p) [
  | inl same ↦ let there : at second p ≡ Some w = ap (at second) (sym same) ∙ part q w is in absurd (cc (none, there))
  | inr other ↦ at_put_other second p v q other ∙ part q w is
]

-- nothing stands beyond the log
pub beyond : (p q : ℕ) (rows : Rows) → AreRows p rows → most_places < q → at rows q ≡ None
beyond p q [] are far = refl
beyond p q (row ∷ rows) are far = at_there row rows q (omega (arith, are.1)) ∙ beyond (row.0 + 1) q rows are.2 far

values_gap : (p : ℕ) (row : ℕ × List ℕ) (rows : Rows) → row.0 ≢ p → values_from p (row ∷ rows) ≡ []
values_gap p row rows other = ap (λ b. cond b (row.1 ∷ values_from (p + 1) rows) []) (ne_eqb row.0 p other)

-- values of the first rows, up to a place at which the second have none, are those of the second without a gap
pub front : (p n : ℕ) (first second : Rows) → AreRows p first → AreRows p second → IsPart first second → n ≤ length (values_from p first) → at second (p + n) ≡ None → take n (values_from p first) ≡ values_from p second
front p zero first [] are_first are_second part few none = refl
front p zero first (row ∷ rows) are_first are_second part few none = elim (cases_eq row.0 p) [
  | inl is ↦ let here : at (row ∷ rows) (p + 0) ≡ Some row.1 = at_here row rows (p + 0) (omega arith) in absurd (cc (none, here))
  | inr other ↦ sym (values_gap p row rows other)
]
front p (suc n) [] second are_first are_second part few none = absurd (omega (arith, few))
front p (suc n) (row ∷ rows) second are_first are_second part few none = elim (cases_eq row.0 p) [
  | inl is ↦ by_second (λ others. front (p + 1) n rows others) second are_second part none is
  | inr other ↦ absurd (omega (arith, few, ap length (values_gap p row rows other)))
]
  where
    by_second : ((others : Rows) → AreRows (p + 1) rows → AreRows (p + 1) others → IsPart rows others → n ≤ length (values_from (p + 1) rows) → at others (p + 1 + n) ≡ None → take n (values_from (p + 1) rows) ≡ values_from (p + 1) others) → (second : Rows) → AreRows p second → IsPart (row ∷ rows) second → at second (p + suc n) ≡ None → row.0 ≡ p → take (suc n) (values_from p (row ∷ rows)) ≡ values_from p second
    by_second go [] are part none is = let there : at [] p ≡ Some row.1 = part p row.1 (at_here row rows p (sym is)) in absurd (cc (there))
    by_second go (other ∷ others) are part none is = elim (cases_eq other.0 p) [
      | inl same ↦
          let found : at (other ∷ others) p ≡ Some row.1 = part p row.1 (at_here row rows p (sym is)) in
          let told : Some other.1 ≡ Some row.1 = sym (at_here other others p (sym same)) ∙ found in
          let value : row.1 ≡ other.1 = cc in
          let later_first : AreRows (p + 1) rows = subst (λ k. AreRows (k + 1) rows) is are_first.2 in
          let later_second : AreRows (p + 1) others = subst (λ k. AreRows (k + 1) others) same are.2 in
          let rest : IsPart rows others = λ q w here.
          let past : q ≢ p = λ at_p. let nothing : at rows p ≡ None = none_below p (p + 1) rows (omega arith) later_first in let something : at rows p ≡ Some w = ap (at rows) (sym at_p) ∙ here in absurd (cc (nothing, something)) in
          sym (at_there other others q (omega arith)) ∙ part q w (at_there row rows q (omega arith) ∙ here) in
          let fewer : n ≤ length (values_from (p + 1) rows) = omega (arith, few, ap length (values_here p row rows is)) in
          let place : p + suc n ≡ p + 1 + n = omega arith in
          let ends : at others (p + 1 + n) ≡ None = ap (at others) (sym place) ∙ sym (at_there other others (p + suc n) (omega arith)) ∙ none in
          ap (take (suc n)) (values_here p row rows is) ∙ ap (λ (vs : List (List ℕ)). row.1 ∷ vs) (go others later_first later_second rest fewer ends)
          ∙ ap (λ v. v ∷ values_from (p + 1) others) value ∙ sym (values_here p other others same)
      | inr past ↦
          let found : at (other ∷ others) p ≡ Some row.1 = part p row.1 (at_here row rows p (sym is)) in
          let nothing : at (other ∷ others) p ≡ None = none_below p other.0 (other ∷ others) (omega (arith, are.0)) (omega arith, are.1, are.2) in
          absurd (cc (found, nothing))
    ]

-- the next value that is put makes one more without a gap
pub one_more : (rows : Rows) (n : ℕ) (v : List ℕ) → AreRows 1 rows → n ≤ length (gapless rows) → n + 1 ≤ most_places → ((other : List ℕ) → at rows (n + 1) ≡ Some other → other ≡ v)
    → AreRows 1 (put rows (n + 1) v) × (n < length (gapless (put rows (n + 1) v)))
one_more rows n v are few within same = by_value (at rows (n + 1)) refl
  where
    later : AreRows 1 (put rows (n + 1) v)
    later = are_rows_put 1 (n + 1) v rows are (omega arith) within

    reaches : n ≤ length (gapless (put rows (n + 1) v)) → n < length (gapless (put rows (n + 1) v))
    reaches below = elim (cases_eq n (length (gapless (put rows (n + 1) v)))) [
      | inl is ↦
          let place : n + 1 ≡ 1 + n = omega arith in
          let here : at (put rows (n + 1) v) (n + 1) ≡ slice_get (gapless (put rows (n + 1) v)) n = ap (at (put rows (n + 1) v)) place ∙ value_is_at 1 n (put rows (n + 1) v) later below in
          let past : slice_get (gapless (put rows (n + 1) v)) n ≡ None = slice_get_past (gapless (put rows (n + 1) v)) n (omega arith) in
          let there : at (put rows (n + 1) v) (n + 1) ≡ Some v = at_put_same rows (n + 1) v in
          absurd (cc (here, past, there))
      | inr other ↦ omega (arith, below, other)
    ]

    longer : (xs ys : List (List ℕ)) → n ≤ length xs → n ≤ length (xs ++ ys)
    longer xs ys le = omega (arith, length-append xs ys)

    by_value : (o : Option (List ℕ)) → at rows (n + 1) ≡ o → AreRows 1 (put rows (n + 1) v) × (n < length (gapless (put rows (n + 1) v)))
    by_value None none = let grown = values_grow 1 (n + 1) v rows are (omega arith) none in (later, reaches (subst (λ (vs : List (List ℕ)). n ≤ length vs) (sym grown.1) (longer (gapless rows) grown.0 few)))
    by_value (Some other) found =
        let value : other ≡ v = same other found in
        let unchanged : put rows (n + 1) v ≡ rows = put_same 1 (n + 1) v rows are (found ∙ ap Some value) in
        (later, reaches (subst (λ r. n ≤ length (gapless r)) (sym unchanged) few))

-- where something stands at each place, so many places have no gap
without_gap : (p n : ℕ) (rows : Rows) → AreRows p rows → ((q : ℕ) → p ≤ q → q < p + n → at rows q ≢ None) → n ≤ length (values_from p rows)
without_gap p zero rows are there = omega arith
without_gap p (suc n) [] are there = absurd (there p (omega arith) (omega arith) refl)
without_gap p (suc n) (row ∷ rows) are there = elim (cases_eq row.0 p) [
  | inl is ↦
      let later : AreRows (p + 1) rows = subst (λ k. AreRows (k + 1) rows) is are.2 in
      let rest : n ≤ length (values_from (p + 1) rows) = without_gap (p + 1) n rows later (λ q lo hi none. there q (omega arith) (omega arith) (at_there row rows q (λ same. omega arith) ∙ none)) in
      omega (arith, rest, ap length (values_here p row rows is))
  | inr other ↦ absurd (there p (omega arith) (omega arith) (none_below p row.0 (row ∷ rows) (omega (arith, are.0)) (omega arith, are.1, are.2)))
]

pub learned_without_gap : (n : ℕ) (rows : Rows) → AreRows 1 rows → AreLearned rows n → n ≤ length (values_from 1 rows)
learned_without_gap n rows are there = without_gap 1 n rows are (λ q lo hi. there q lo (omega arith))

-- and no more where nothing stands at the next
pub prefix_ends : (n : ℕ) (rows : Rows) → AreRows 1 rows → AreLearned rows n → at rows (n + 1) ≡ None → n ≡ length (values_from 1 rows)
prefix_ends n rows are there none =
    let place : 1 + n ≡ n + 1 = omega arith in
    let few : n ≤ length (values_from 1 rows) = learned_without_gap n rows are there in
    let all : take n (values_from 1 rows) ≡ values_from 1 rows = front 1 n rows rows are are (λ p v is. is) few (ap (at rows) place ∙ none) in
    omega (arith, few, ap length all, length-take n (values_from 1 rows))
