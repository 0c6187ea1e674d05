-- A row put into a table whose rows rise by their keys.
use Rattle.std.proofs.Common.{◌≡◌, ◌≢◌, inl, inr, ℕ, pos, ◌<◌, List, [], ◌∷◌, ◌++◌, map, true, false, nat_lt, ◌==◌, not}
use Rattle.std.proofs.Common.{None, refl, sym, ap, subst, ◌∙◌, arith}
use Rattle.acceptor_store_parts.proofs.Words.{AllByRecursion, Less, Equal, Greater, ints, cases_lt, cases_eq, eq-eqb}
use Rattle.acceptor_store_parts.proofs.Words.{eqb-true, nat_tests, without_all, id_in, Has, AreConflicts, conflicts}
use Rattle.acceptor_store_parts.proofs.Words.{ids_of, value_cmp-Int, Int, Row, value_cmp, put_row, has_rowid}
use Rattle.acceptor_store_parts.proofs.Words.{without_rowid}
use Rattle.std.specs.List.{filter}
use Rattle.acceptor_store_parts.proofs.Rising.{IsRisingBy}
use Rattle.acceptor_store_parts.proofs.Filters.{none_below, all_above, all_others, lower}
use Rattle.sqlite.specs.Ops.{binary}
use Rattle.sqlite_value.specs.Keys.{first_key}
use Rattle.sqlite.specs.Tree.{rowid}
use Rattle.sqlite.specs.Table.{Table}

module _ {X : Type 0} (key : X → ℕ) (row : X → Row) (keyed : (x : X) → rowid (row x) ≡ Int (pos (key x))) where
  less : (x y : X) → key x < key y → value_cmp (rowid (row x)) (rowid (row y)) ≡ Less
  less x y lt = rw (keyed x, keyed y, value_cmp-Int) (grind (arith, ints))

  greater : (x y : X) → key y < key x → value_cmp (rowid (row x)) (rowid (row y)) ≡ Greater
  greater x y gt = rw (keyed x, keyed y, value_cmp-Int) (grind (arith, ints))

  is_key : (k : ℕ) (x : X) → key x ≡ k → has_rowid (pos k) (row x) ≡ true
  is_key k x same = rw (keyed x, value_cmp-Int) (grind (arith, ints))

  is_other : (k : ℕ) (x : X) → key x ≢ k → has_rowid (pos k) (row x) ≡ false
  is_other k x other = rw (keyed x, value_cmp-Int) (grind (arith, ints))

  without_one : (k : ℕ) (xs : List X) → without_rowid (pos k) (map row xs) ≡ map row (filter (λ y. not (key y == k)) xs)
  without_one k [] = refl
  without_one k (x ∷ xs) = elim (cases_eq (key x) k) [
    | inl same ↦ let t = is_key k x same in let u : (key x == k) ≡ true = grind (arith, nat_tests) in rw (t, u) (without_one k xs)
    | inr other ↦ let t = is_other k x other in let u : (key x == k) ≡ false = grind (arith, nat_tests) in rw (t, u) (ap (λ rs. row x ∷ rs) (without_one k xs))
  ]

  put_above : (v : X) (xs : List X) → AllByRecursion (λ y. key v < key y) xs → put_row (row v) (map row xs) ≡ map row (v ∷ xs)
  put_above v [] all = refl
  put_above v (x ∷ xs) all = let t = greater x v all.0 in rw t

  put_between : (v : X) (xs : List X) → IsRisingBy key xs → put_row (row v) (map row (filter (λ y. not (key y == key v)) xs))
      ≡ map row (filter (λ y. nat_lt (key y) (key v)) xs ++ v ∷ filter (λ y. nat_lt (key v) (key y)) xs)
  put_between v [] rises = refl
  put_between v (x ∷ xs) rises = elim (cases_lt (key x) (key v)) [
    | inl below ↦
        let t = less x v below in
        let other : (key x == key v) ≡ false = grind (arith, nat_tests) in
        let lt : nat_lt (key x) (key v) ≡ true = grind (arith, nat_tests) in
        let gt : nat_lt (key v) (key x) ≡ false = grind (arith, nat_tests) in
        rw (other, lt, gt, t) (ap (λ rs. row x ∷ rs) (put_between v xs rises.1))
    | inr above ↦ elim (cases_eq (key x) (key v)) [
      | inl same ↦
          let all = subst (λ (k : ℕ). AllByRecursion (λ y. k < key y) xs) same rises.0 in
          let eq : (key x == key v) ≡ true = grind (arith, nat_tests) in
          let lt : nat_lt (key x) (key v) ≡ false = grind (arith, nat_tests) in
          let gt : nat_lt (key v) (key x) ≡ false = grind (arith, nat_tests) in
          rw (eq, lt, gt, none_below key (key v) xs all, all_above key (key v) xs all, all_others key (key v) xs all) (put_above v xs all)
      | inr other ↦
          let low : key v < key x = omega arith in
          let all = lower key (key v) (key x) xs low rises.0 in
          let eq : (key x == key v) ≡ false = grind (arith, nat_tests) in
          let lt : nat_lt (key x) (key v) ≡ false = grind (arith, nat_tests) in
          let gt : nat_lt (key v) (key x) ≡ true = grind (arith, nat_tests) in
          let t = greater x v low in
          rw (eq, lt, gt, none_below key (key v) xs all, all_above key (key v) xs all, all_others key (key v) xs all, t)
    ]
  ]

  keeps : (k : ℕ) (xs : List X) → ((y : X) → Has xs y → key y ≢ k) → filter (λ y. not (key y == k)) xs ≡ xs
  keeps k [] none = refl
  keeps k (x ∷ xs) none =
      let other = none x (inl refl) in
      let u : (key x == k) ≡ false = grind (arith, nat_tests) in
      rw u (ap (λ ys. x ∷ ys) (keeps k xs (λ y has. none y (inr has))))

  twice : (k : ℕ) (xs : List X) → filter (λ y. not (key y == k)) (filter (λ y. not (key y == k)) xs) ≡ filter (λ y. not (key y == k)) xs
  twice k [] = refl
  twice k (x ∷ xs) = elim (cases_eq (key x) k) [
    | inl same ↦ let u : (key x == k) ≡ true = grind (arith, nat_tests) in rw u (twice k xs)
    | inr other ↦ let u : (key x == k) ≡ false = grind (arith, nat_tests) in rw (u, u) (ap (λ ys. x ∷ ys) (twice k xs))
  ]

  has_row : (xs : List X) (r : Row) → Has (map row xs) r → (y : X) × Has xs y × (r ≡ row y)
  has_row [] r h = absurd h
  has_row (x ∷ xs) r (inl same) = (x, inl refl, same)
  has_row (x ∷ xs) r (inr more) = let it = has_row xs r more in (it.0, inr it.1, it.2)

  row_has : (xs : List X) (y : X) → Has xs y → Has (map row xs) (row y)
  row_has [] y h = absurd h
  row_has (x ∷ xs) y (inl same) = inl (ap row same)
  row_has (x ∷ xs) y (inr more) = inr (row_has xs y more)

  without_same : (k : ℕ) (xs : List X) (found : List Row) → ((x : Row) → Has found x → id_in (rowid x) ≡ pos k)
      → without_all (map row (filter (λ y. not (key y == k)) xs)) (ids_of found) ≡ map row (filter (λ y. not (key y == k)) xs)
  without_same k xs [] all = refl
  without_same k xs (x ∷ more) all =
      let is = all x (inl refl) in
      rw (is, without_one, twice k) (without_same k xs more (λ y has. all y (inr has)))

  module _ (table : Table) (v : X) (xs : List X) where
    conflict_is : (x : X) → conflicts None [] table (row v) (row x) ≡ (key x == key v)
    unfolding binary first_key
    conflict_is x = rw (keyed x, keyed v) (elim (cases_eq (key x) (key v)) [
      | inl same ↦
          let u : (key x == key v) ≡ true = grind (arith, nat_tests) in
          let c : value_cmp (Int (pos (key x))) (Int (pos (key v))) ≡ Equal = rw value_cmp-Int (grind (arith, ints)) in
          rw (u, c)
      | inr other ↦
          let u : (key x == key v) ≡ false = grind (arith, nat_tests) in
          rw u (elim (cases_lt (key x) (key v)) [
            | inl below ↦ let c : value_cmp (Int (pos (key x))) (Int (pos (key v))) ≡ Less = rw value_cmp-Int (grind (arith, ints)) in rw c
            | inr above ↦ let c : value_cmp (Int (pos (key x))) (Int (pos (key v))) ≡ Greater = rw value_cmp-Int (grind (arith, ints)) in rw c
          ])
    ])

    pub replaced : (found : List Row) → IsRisingBy key xs → AreConflicts None [] table (map row xs) (row v) found
        → put_row (row v) (without_all (map row xs) (ids_of found)) ≡ map row (filter (λ y. nat_lt (key y) (key v)) xs ++ v ∷ filter (λ y. nat_lt (key v) (key y)) xs)
    replaced [] rises all =
        let none = keeps (key v) xs (λ y has same. all.complete (row y) (row_has xs y has) (conflict_is y ∙ eq-eqb (key y) (key v) same)) in
        let put = put_between v xs rises in
        subst (λ ys. put_row (row v) (map row ys) ≡ map row (filter (λ y. nat_lt (key y) (key v)) xs ++ v ∷ filter (λ y. nat_lt (key v) (key y)) xs)) none put
    replaced (x ∷ more) rises all =
        let ids : (r : Row) → Has (x ∷ more) r → id_in (rowid r) ≡ pos (key v) = λ r has.
        let from = all.sound r has in
        let it = has_row xs from.0 from.1 in
        let same : key it.0 ≡ key v = eqb-true (key it.0) (key v) (sym (conflict_is it.0) ∙ (ap (conflicts None [] table (row v)) (sym it.2) ∙ from.2)) in
        ap (λ (s : Row). id_in (rowid s)) from.3 ∙ (ap (λ (s : Row). id_in (rowid s)) it.2 ∙ (ap id_in (keyed it.0) ∙ ap pos same)) in
        let first = ids x (inl refl) in
        rw (first, without_one, without_same (key v) xs more (λ r has. ids r (inr has))) (put_between v xs rises)
