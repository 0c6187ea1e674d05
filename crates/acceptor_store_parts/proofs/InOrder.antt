-- What a query by ascending rowid shows of a table: the rows that its terms let pass, in their order.
use Rattle.std.proofs.Common.{◌≡◌, inl, inr, ℕ, List, [], ◌∷◌, map, Bool, refl, ap, subst, ◌∙◌}
use Rattle.std.specs.List.{filter, list_all}
use Rattle.acceptor_store_parts.proofs.Words.{IsPermutation, Less, cases_Bool, Row, value_cmp, Output, IsAnswer}
use Rattle.acceptor_store_parts.proofs.Words.{IsTable, Query, matches, output, output_cmp, inner, end, Term}
use Rattle.sqlite_sql.specs.Term.{eval_all, holds}
use Rattle.sqlite_sql.proofs.QueryLemmas.{output_cmp_total}
use Rattle.sqlite_keyed.proofs.ListLemmas.{ascending-filter, ascending-map, ascending_weaker, map-map}
use Rattle.sqlite_keyed.proofs.SortLemmas.{sorted_unique}
use Rattle.sqlite.specs.Tree.{Trees, rowid}
use Rattle.acceptor_store_parts.proofs.Meaning.{rows_query}

module _ (tree : ℕ) (terms columns : List Term) (params : Row) where
  abbrev query : Query
  query = rows_query tree terms columns

  abbrev env : Row → List Row
  env r = params ∷ r ∷ []

  abbrev pub passes : Row → Bool
  passes r = list_all (holds (params ∷ r ∷ [])) terms

  -- what is shown of a row
  abbrev pub cut : Row → Row
  cut r = eval_all columns (params ∷ r ∷ [])

  matched : (rows : List Row) → matches (λ _. rows) terms (inner tree end) (params ∷ []) ≡ map env (filter passes rows)
  matched [] = refl
  matched (r ∷ rows) = elim (cases_Bool (passes r)) [
    | inl here ↦ rw here (ap (λ es. env r ∷ es) (matched rows))
    | inr other ↦ rw other (matched rows)
  ]

  pub in_this_order : (db : Trees) → IsTable (db tree) → (got : List Row) → IsAnswer (rows_query tree terms columns) db params got → got ≡ map cut (filter passes (db tree))
  in_this_order db table got a =
      let rows = filter passes (db tree) in
      let out = λ (r : Row). output query (env r) in
      let rises : IsTable rows = ascending-filter _ passes (db tree) table in
      let strict = ascending-map (λ o p. output_cmp query o p ≡ Less) out rows (ascending_weaker (λ r s. value_cmp (rowid r) (rowid s) ≡ Less) _ (λ r s less. rw less) rows rises) in
      let kept : a.kept ≡ map out rows = a.distinct ∙ ap (map (output query)) (a.grouped ∙ matched (db tree)) ∙ map-map (output query) env rows in
      let is = sorted_unique (output_cmp query) (output_cmp_total query) (map out rows) a.ordered strict (subst (λ ks. IsPermutation ks a.ordered) kept a.same) a.sorted in
      a.shown ∙ ap (map (λ (o : Output). o.1)) is ∙ map-map (λ (o : Output). o.1) out rows
