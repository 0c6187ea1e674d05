-- Why a query of a whole table fails.
use Rattle.std.proofs.Common.{◌≡◌, inl, inr, List, [], ◌≤◌, length, true, Ok, Err, Result, IfErr, ℕ, None, refl, sym}
use Rattle.std.proofs.Common.{ap, subst, ◌∙◌, le_refl}
use Rattle.acceptor_store_parts.proofs.Words.{accepts_program, ProgramOverflows, timed, Schema, Term, Database}
use Rattle.acceptor_store_parts.proofs.Words.{misses_table, IsSourceOf, Compiled, State, HasCause, IsNoStatement}
use Rattle.acceptor_store_parts.proofs.Words.{FailsToShow, store_error, Error, StoreError, OutOfMemory, Io, Corrupt}
use Rattle.acceptor_store_parts.proofs.Words.{Full, Broken, Unstorable, Version, First, Second, Third, Fourth, KeepsLearned}
use Rattle.acceptor_store_parts.proofs.Words.{schema_of, IsFault}
use Rattle.sqlite.specs.Tree.{Trees}
use Rattle.sqlite.specs.Listing.{understood}
use Rattle.sqlite.specs.State.{IsNotRun, FailsToQuery}
use Rattle.acceptor_store_parts.proofs.Meaning.{Means, compiled_as, known, select, rows_query, both_query, all_query}
use Rattle.acceptor_store_parts.proofs.Meaning.{all_learned_meaning, facts_meaning}

pub numbers_typed : (version : Version) → accepts_program (schema_of version) [] both_query [] ≡ true
numbers_typed First = refl
numbers_typed Second = refl
numbers_typed Third = refl
numbers_typed Fourth = refl

pub votes_typed : (version : Version) → accepts_program (schema_of version) [] all_query [] ≡ true
votes_typed First = refl
votes_typed Second = refl
votes_typed Third = refl
votes_typed Fourth = refl

pub learned_typed : (version : Version) → KeepsLearned version → accepts_program (schema_of version) [] all_learned_meaning [] ≡ true
learned_typed First keeps = absurd keeps
learned_typed Second keeps = refl
learned_typed Third keeps = refl
learned_typed Fourth keeps = refl

pub facts_typed : accepts_program (schema_of Third) [] facts_meaning [] ≡ true
facts_typed = refl

module _ (old new : State) where
  cause_is : (cause : StoreError) → HasCause old new ⊥ cause → IsFault old new (store_error cause)
  cause_is OutOfMemory has = inl refl
  cause_is Io has = inr (inl (inr has))
  cause_is Corrupt has = inr (inl (inr has))
  cause_is Full has = inr (inl (inr has))
  cause_is Broken has = inr (inl (inl has))
  cause_is Unstorable has = absurd has

-- columns of all rows of a tree
module _ (tree : ℕ) (columns : List Term) {schema : Schema} {sql : List ℕ} {names : List (List ℕ)} (is : Means schema sql [] (select (rows_query tree [] columns) names)) (typed : accepts_program schema [] (rows_query tree [] columns) [] ≡ true)
    (old new : State) (has : old.now.schema ≡ schema) where
  abbrev meaning : Compiled
  meaning = compiled_as sql [] (select (rows_query tree [] columns) names)

  meant : understood old.now.schema sql ≡ Ok meaning
  meant = ap (λ s. understood s sql) has ∙ known is

  one_meaning : (c : Compiled) → understood old.now.schema sql ≡ Ok c → meaning ≡ c
  one_meaning c known_as = let both : Ok meaning ≡ Ok c = sym meant ∙ known_as in cc

  is_statement : (e : Error) → IsNoStatement old sql [] e → ⊥
  is_statement e (inl h) = absurd (let both : Ok meaning ≡ Err h.0 = sym meant ∙ h.1 in cc)
  is_statement e (inr (c, known_as, inl h)) = h.0 (subst (λ (d : Compiled). length sql ≤ d.tail) (one_meaning c known_as) (le_refl (length sql)))
  is_statement e (inr (c, known_as, inr (inl h))) = h.0 (ap (λ (d : Compiled). length d.names) (one_meaning c known_as))
  is_statement e (inr (c, known_as, inr (inr h))) = h.0 (sym (ap (λ (d : Compiled). d.formats) (one_meaning c known_as)))

  not_run : (e : Error) → IsNotRun old new sql [] e → IsFault old new e
  unfolding IsNotRun
  not_run e (inl h) = absurd (is_statement e h.0)
  not_run e (inr h) = subst (IsFault old new) (sym h.1) (cause_is old new h.0 h.2)

  none_of : (db : Trees) → ProgramOverflows db [] [] [] (rows_query tree [] columns) → ⊥
  none_of db (inl h) = h
  none_of db (inr h) = h.4

  fails : (e : Error) → FailsToQuery sql [] old new e → IsFault old new e
  unfolding FailsToQuery
  fails e (inl h) = not_run e h
  fails e (inr h) =
      let it : FailsToShow old new sql meaning [] e None = subst (λ (d : Compiled). FailsToShow old new sql d (timed [] d.formats h.1.now) e d.returning) (sym (one_meaning h.0 h.1.is)) h.2 in
      let db : it.0 ≡ old.now = subst (λ b. IsSourceOf b old.now it.0) (ap misses_table (subst (λ s. Means s sql [] (select (rows_query tree [] columns) names)) (sym has) is).is) it.1 in
      let schema_is = ap (λ (d : Database). d.schema) db ∙ has in
      elim it.2 [
        | inl other ↦ absurd (let t = sym other.1 ∙ ap (λ s. accepts_program s [] (rows_query tree [] columns) []) schema_is ∙ typed in cc)
        | inr (inl over) ↦ absurd (none_of it.0.trees over.1)
        | inr (inr limit) ↦ inr (inr limit.1)
      ]

  pub all_fail : {X : Type 0} (r : Result X Error) → IfErr r (FailsToQuery sql [] old new) → IfErr r (IsFault old new)
  all_fail (Ok x) h = tt
  all_fail (Err e) h = fails e h
