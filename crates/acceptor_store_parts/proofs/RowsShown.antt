-- What queries show of a table whose rows rise by their rowids.
use Rattle.std.proofs.Common.{◌≡◌, inl, inr, ℕ, pos, ◌==◌, ◌<◌, List, [], ◌∷◌, map, Bool, nat_le, true, false, refl}
use Rattle.std.proofs.Common.{sym, ap, subst, ◌∙◌, arith}
use Rattle.std.specs.List.{filter}
use Rattle.std.proofs.Math.Bool.{and-true}
use Rattle.acceptor_store_parts.proofs.Words.{int_cmp, Less, Equal, Greater, cases_lt, cases_eq, nat_tests, ints}
use Rattle.acceptor_store_parts.proofs.Words.{rows_from, Eq, Ge, value_cmp-Int, Binary, Int, Row, value_cmp, is_true}
use Rattle.acceptor_store_parts.proofs.Words.{IsAnswer, IsTable, Term}
use Rattle.sqlite_sql.specs.declared.ops.BinaryOp.TheVariants as by
use Rattle.sqlite_sql.specs.Term.{eval_all}
use Rattle.sqlite_keyed.proofs.ListLemmas.{ascending-map, ascending_weaker, filter-map, filter_all, filter_same, all_of}
use Rattle.sqlite_keyed.proofs.ListLemmas.{map-map, map_same}
use Rattle.sqlite.specs.Ops.{binary}
use Rattle.sqlite.specs.Tree.{Trees, rowid}
use Rattle.acceptor_store_parts.proofs.Meaning.{rows_query, is_from, is_at}
use Rattle.acceptor_store_parts.proofs.InOrder.{cut, passes, in_this_order}
use Rattle.acceptor_store_parts.proofs.Rising.{IsRisingBy}

at_least : (p q : ℕ) → is_true (binary (by.Compare Ge Binary) (Int (pos p)) (Int (pos q))) ≡ nat_le q p
unfolding binary
at_least p q = rw value_cmp-Int (elim (cases_lt p q) [
  | inl below ↦ let c : int_cmp (pos p) (pos q) ≡ Less = grind (arith, ints) in let t : nat_le q p ≡ false = grind (arith, nat_tests) in rw (c, t)
  | inr from ↦
      let t : nat_le q p ≡ true = grind (arith, nat_tests) in
      elim (cases_eq p q) [
        | inl same ↦ let c : int_cmp (pos p) (pos q) ≡ Equal = grind (arith, ints) in rw (c, t)
        | inr other ↦ let low : q < p = omega arith in let c : int_cmp (pos p) (pos q) ≡ Greater = grind (arith, ints) in rw (c, t)
      ]
])

equals : (p q : ℕ) → is_true (binary (by.Compare Eq Binary) (Int (pos p)) (Int (pos q))) ≡ (p == q)
unfolding binary
equals p q = rw value_cmp-Int (elim (cases_eq p q) [
  | inl same ↦
      let c : int_cmp (pos p) (pos q) ≡ Equal = grind (arith, ints) in
      let t : (p == q) ≡ true = grind (arith, nat_tests) in
      rw (c, t)
  | inr other ↦
      let t : (p == q) ≡ false = grind (arith, nat_tests) in
      elim (cases_lt p q) [
        | inl below ↦ let c : int_cmp (pos p) (pos q) ≡ Less = grind (arith, ints) in rw (c, t)
        | inr above ↦ let low : q < p = omega arith in let c : int_cmp (pos p) (pos q) ≡ Greater = grind (arith, ints) in rw (c, t)
      ]
])

-- rows of a table by their rowids and the columns that stand after these
module _ {V : Type 0} (rest shown : ℕ × V → Row) (tree : ℕ) (columns : List Term) (rows : List (ℕ × V)) (rises : IsRisingBy (λ (v : ℕ × V). v.0) rows) (db : Trees) (is : db tree ≡ map (λ v. Int (pos v.0) ∷ rest v) rows) where
  abbrev stored : ℕ × V → Row
  stored v = Int (pos v.0) ∷ rest v

  table : IsTable (db tree)
  table = subst IsTable (sym is) (ascending-map (λ r s. value_cmp (rowid r) (rowid s) ≡ Less) stored rows (ascending_weaker (λ (v w : ℕ × V). v.0 < w.0) _ (λ v w low. rw value_cmp-Int (grind (arith, ints))) rows rises))

  -- those that the terms let pass
  shown_by : (params : Row) (terms : List Term) (p : ℕ × V → Bool) → ((v : ℕ × V) → passes tree terms columns params (stored v) ≡ p v) → ((v : ℕ × V) → cut tree terms columns params (stored v) ≡ shown v)
      → (got : List Row) → IsAnswer (rows_query tree terms columns) db params got → got ≡ map shown (filter p rows)
  shown_by params terms p fits each got a =
      let some : filter (passes tree terms columns params) (db tree) ≡ map stored (filter p rows) =
      ap (filter (passes tree terms columns params)) is ∙ filter-map (passes tree terms columns params) stored rows ∙ ap (map stored) (filter_same _ p fits rows) in
      in_this_order tree terms columns params db table got a ∙ ap (map (cut tree terms columns params)) some ∙ map-map (cut tree terms columns params) stored (filter p rows) ∙ map_same _ shown each (filter p rows)

  pub shown_from : (q : ℕ) → ((v : ℕ × V) → eval_all columns ((Int (pos q) ∷ []) ∷ (Int (pos v.0) ∷ rest v) ∷ []) ≡ shown v) → (got : List Row) → IsAnswer (rows_query tree is_from columns) db (Int (pos q) ∷ []) got → got ≡ map shown (rows_from rows q)
  shown_from q = shown_by (Int (pos q) ∷ []) is_from (λ v. nat_le q v.0) (λ v. rw (at_least v.0 q, and-true))

  pub shown_at : (q : ℕ) → ((v : ℕ × V) → eval_all columns ((Int (pos q) ∷ []) ∷ (Int (pos v.0) ∷ rest v) ∷ []) ≡ shown v) → (got : List Row) → IsAnswer (rows_query tree is_at columns) db (Int (pos q) ∷ []) got → got ≡ map shown (filter (λ v. v.0 == q) rows)
  shown_at q = shown_by (Int (pos q) ∷ []) is_at (λ v. v.0 == q) (λ v. rw (equals v.0 q, and-true))

  pub shown_all : ((v : ℕ × V) → eval_all columns ([] ∷ (Int (pos v.0) ∷ rest v) ∷ []) ≡ shown v) → (got : List Row) → IsAnswer (rows_query tree [] columns) db [] got → got ≡ map shown rows
  shown_all each got a = shown_by [] [] (λ _. true) (λ _. refl) each got a ∙ ap (map shown) (filter_all (λ _. true) rows (all_of _ (λ _. refl) rows))
