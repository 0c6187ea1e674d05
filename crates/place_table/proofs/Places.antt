-- What stands at a place, and what is put there, among rows of which some come before others.
use Rattle.std.proofs.Common.{◌≡◌, inl, inr, ℕ, zero, suc, ◌-◌, Bool, cond, nat_le, false, ◌+◌, ◌<◌, ◌≤◌, List, [], ◌∷◌}
use Rattle.std.proofs.Common.{◌++◌, length, set, get_or, slice_get, Option, Some, None, MatchOption, is_some, Result}
use Rattle.std.proofs.Common.{Ok, Err, OnOk, OnErr, IfOk, refl, sym, ap, subst, ◌∙◌, append_assoc, length-append, arith}
use Rattle.std.specs.List.Sorted.{IsStrictlySortedBy}
use Rattle.std.specs.Cmp.{nat_cmp_is}
use Rattle.std.specs.Map.{keys_of, remove_entry}
use Rattle.std.specs.BTreeMap.{is_at}
use Rattle.std.specs.Ordering.{nat_cmp, is_eq}
use Rattle.std.specs.declared.cmp.Ordering.TheVariants.{Less, Equal, Greater}
use Rattle.std.proofs.lemmas.Cmp.{ranked}
use Rattle.std.proofs.lemmas.Map.Keys.{sorted_tail}
use Rattle.ballots.specs.Rows.{at, put, rows_from}
use Rattle.ballots.proofs.Callers.{in_order, put_before, put_here, put_after, at_before, at_here, at_after}
use Rattle.std.proofs.lemmas.Bool.{le-leb, lt-leb}
use Rattle.std.proofs.lemmas.List.Elements.{filter-append}
use Rattle.place_table.specs.Entries.{IsNext, numbered, AllBelow, AllFrom, entries_of, AreStored}

module _ {V : Type 0} where
  pub at_below : (a : ℕ) (rows rest : List (ℕ × V)) (p : ℕ) → AllBelow a rows → a ≤ p → at (rows ++ rest) p ≡ at rest p
  at_below a [] rest p all from = refl
  at_below a (row ∷ rows) rest p all from = at_after row.0 row.1 (rows ++ rest) p (omega (arith, all.0)) ∙ at_below a rows rest p all.1 from

  pub at_from : (a : ℕ) (rows : List (ℕ × V)) (p : ℕ) → AllFrom a rows → p < a → at rows p ≡ None
  at_from a [] p all below = refl
  at_from a (row ∷ rows) p all below = at_before row.0 row.1 rows p (omega (arith, all.0)) ∙ at_from a rows p all.1 below

  pub at_until : (rows rest : List (ℕ × V)) (p : ℕ) → at rest p ≡ None → at (rows ++ rest) p ≡ at rows p
  at_until [] rest p none = none
  at_until (row ∷ rows) rest p none = elim (in_order p row.0) [
    | inl before ↦ at_before row.0 row.1 (rows ++ rest) p before ∙ at_until rows rest p none ∙ sym (at_before row.0 row.1 rows p before)
    | inr (inl here) ↦ at_here row.0 row.1 (rows ++ rest) p here ∙ sym (at_here row.0 row.1 rows p here)
    | inr (inr after) ↦ at_after row.0 row.1 (rows ++ rest) p after ∙ at_until rows rest p none ∙ sym (at_after row.0 row.1 rows p after)
  ]

  pub from_numbered : (a q : ℕ) (vs : List V) → a ≤ q → AllFrom a (numbered q vs)
  from_numbered a q [] from = tt
  from_numbered a q (v ∷ vs) from = (from, from_numbered a (q + 1) vs (omega arith))

  pub below_numbered : (a q : ℕ) (vs : List V) → q + length vs ≤ a → AllBelow a (numbered q vs)
  below_numbered a q [] fits = tt
  below_numbered a q (v ∷ vs) fits = (omega arith, below_numbered a (q + 1) vs (omega arith))

  pub all_from_append : (a : ℕ) (rows rest : List (ℕ × V)) → AllFrom a rows → AllFrom a rest → AllFrom a (rows ++ rest)
  all_from_append a [] rest all more = more
  all_from_append a (row ∷ rows) rest all more = (all.0, all_from_append a rows rest all.1 more)

  pub from_less : (a b : ℕ) (rows : List (ℕ × V)) → b ≤ a → AllFrom a rows → AllFrom b rows
  from_less a b [] less all = tt
  from_less a b (row ∷ rows) less all = (omega (arith, all.0), from_less a b rows less all.1)

  pub at_numbered : (q : ℕ) (vs : List V) (rest : List (ℕ × V)) (i p : ℕ) → p ≡ q + i → i < length vs → at (numbered q vs ++ rest) p ≡ slice_get vs i
  at_numbered q [] rest i p is within = absurd (omega arith)
  at_numbered q (v ∷ vs) rest zero p is within = at_here q v (numbered (q + 1) vs ++ rest) p (omega arith)
  at_numbered q (v ∷ vs) rest (suc i) p is within = at_after q v (numbered (q + 1) vs ++ rest) p (omega arith) ∙ at_numbered (q + 1) vs rest i p (omega arith) (omega arith)

  pub put_below : (a : ℕ) (rows rest : List (ℕ × V)) (p : ℕ) (v : V) → AllBelow a rows → a ≤ p → put (rows ++ rest) p v ≡ rows ++ put rest p v
  put_below a [] rest p v all from = refl
  put_below a (row ∷ rows) rest p v all from = put_after row.0 row.1 (rows ++ rest) p v (omega (arith, all.0)) ∙ ap (λ (r : List (ℕ × V)). row ∷ r) (put_below a rows rest p v all.1 from)

  put_first : (rest : List (ℕ × V)) (p : ℕ) (v : V) → AllFrom (p + 1) rest → put rest p v ≡ (p, v) ∷ rest
  put_first [] p v all = refl
  put_first (row ∷ rest) p v all = put_before row.0 row.1 rest p v (omega (arith, all.0))

  pub put_until : (rows rest : List (ℕ × V)) (p : ℕ) (v : V) → AllFrom (p + 1) rest → put (rows ++ rest) p v ≡ put rows p v ++ rest
  put_until [] rest p v all = put_first rest p v all
  put_until (row ∷ rows) rest p v all = elim (in_order p row.0) [
    | inl before ↦ put_before row.0 row.1 (rows ++ rest) p v before ∙ sym (ap (λ (r : List (ℕ × V)). r ++ rest) (put_before row.0 row.1 rows p v before))
    | inr (inl here) ↦ put_here row.0 row.1 (rows ++ rest) p v here ∙ sym (ap (λ (r : List (ℕ × V)). r ++ rest) (put_here row.0 row.1 rows p v here))
    | inr (inr after) ↦ put_after row.0 row.1 (rows ++ rest) p v after ∙ ap (λ (r : List (ℕ × V)). row ∷ r) (put_until rows rest p v all) ∙ sym (ap (λ (r : List (ℕ × V)). r ++ rest) (put_after row.0 row.1 rows p v after))
  ]

  pub numbered_end : (q : ℕ) (vs : List V) (p : ℕ) (v : V) → p ≡ q + length vs → numbered q (vs ++ v ∷ []) ≡ numbered q vs ++ (p, v) ∷ []
  numbered_end q [] p v is = ap (λ (k : ℕ). (k, v) ∷ []) (omega arith)
  numbered_end q (w ∷ vs) p v is = ap (λ (r : List (ℕ × V)). (q, w) ∷ r) (numbered_end (q + 1) vs p v (omega arith))

  -- one more value at the end of the run
  pub one_more : (q : ℕ) (vs : List V) (rest : List (ℕ × V)) (p : ℕ) (v : V) → p ≡ q + length vs → numbered q vs ++ (p, v) ∷ rest ≡ numbered q (vs ++ v ∷ []) ++ rest
  one_more q vs rest p v is = sym (append_assoc (numbered q vs) ((p, v) ∷ []) rest) ∙ sym (ap (λ (r : List (ℕ × V)). r ++ rest) (numbered_end q vs p v is))

  pub put_end : (q : ℕ) (vs : List V) (rest : List (ℕ × V)) (p : ℕ) (v : V) → p ≡ q + length vs → AllFrom (p + 1) rest → put (numbered q vs ++ rest) p v ≡ numbered q (vs ++ v ∷ []) ++ rest
  put_end q vs rest p v is all =
      put_below p (numbered q vs) rest p v (below_numbered p q vs (omega arith)) (omega arith)
      ∙ ap (λ (r : List (ℕ × V)). numbered q vs ++ r) (put_first rest p v all)
      ∙ one_more q vs rest p v is

  pub put_in : (q : ℕ) (vs : List V) (rest : List (ℕ × V)) (i p : ℕ) (v : V) → p ≡ q + i → i < length vs → put (numbered q vs ++ rest) p v ≡ numbered q (set vs i v) ++ rest
  put_in q [] rest i p v is within = absurd (omega arith)
  put_in q (w ∷ vs) rest zero p v is within = put_here q w (numbered (q + 1) vs ++ rest) p v (omega arith)
  put_in q (w ∷ vs) rest (suc i) p v is within = put_after q w (numbered (q + 1) vs ++ rest) p v (omega arith) ∙ ap (λ (r : List (ℕ × V)). (q, w) ∷ r) (put_in (q + 1) vs rest i p v (omega arith) (omega arith))

  pub below_put : (a p : ℕ) (v : V) (rows : List (ℕ × V)) → p < a → AllBelow a rows → AllBelow a (put rows p v)
  below_put a p v [] below all = (below, tt)
  below_put a p v (row ∷ rows) below all = elim (in_order p row.0) [
    | inl before ↦ subst (AllBelow a) (sym (put_before row.0 row.1 rows p v before)) (below, all)
    | inr (inl here) ↦ subst (AllBelow a) (sym (put_here row.0 row.1 rows p v here)) all
    | inr (inr after) ↦ subst (AllBelow a) (sym (put_after row.0 row.1 rows p v after)) (all.0, below_put a p v rows below all.1)
  ]

  pub from_put : (a p : ℕ) (v : V) (rows : List (ℕ × V)) → a ≤ p → AllFrom a rows → AllFrom a (put rows p v)
  from_put a p v [] from all = (from, tt)
  from_put a p v (row ∷ rows) from all = elim (in_order p row.0) [
    | inl before ↦ subst (AllFrom a) (sym (put_before row.0 row.1 rows p v before)) (from, all)
    | inr (inl here) ↦ subst (AllFrom a) (sym (put_here row.0 row.1 rows p v here)) all
    | inr (inr after) ↦ subst (AllFrom a) (sym (put_after row.0 row.1 rows p v after)) (all.0, from_put a p v rows from all.1)
  ]

  -- rows from p on of which none is at p
  pub from_absent : (p : ℕ) (rows : List (ℕ × V)) → AllFrom p rows → at rows p ≡ None → AllFrom (p + 1) rows
  from_absent p [] all none = tt
  from_absent p (row ∷ rows) all none = elim (in_order p row.0) [
    | inl before ↦ (omega arith, from_absent p rows all.1 (sym (at_before row.0 row.1 rows p before) ∙ none))
    | inr (inl here) ↦ let there : Some row.1 ≡ None = sym (at_here row.0 row.1 rows p here) ∙ none in absurd (cc (there))
    | inr (inr after) ↦ absurd (omega (arith, all.0))
  ]

-- what stands in a table at a place before its run, in its run, and behind it
module _ {V : Type 0} (before : List (ℕ × V)) (first : ℕ) (run : List V) (after : List (ℕ × V)) (stored : AreStored before first run after) (p : ℕ) where
  pub behind : AllFrom first (numbered first run ++ after)
  behind = all_from_append first (numbered first run) after (from_numbered first first run (omega arith)) (from_less (first + length run) first after (omega arith) stored.1)

  pub found_before : p < first → at (entries_of before first run after) p ≡ at before p
  found_before lt = at_until before (numbered first run ++ after) p (at_from first (numbered first run ++ after) p behind lt)

  pub found_in : (i : ℕ) → p ≡ first + i → i < length run → at (entries_of before first run after) p ≡ slice_get run i
  found_in i is within = at_below first before (numbered first run ++ after) p stored.0 (omega arith) ∙ at_numbered first run after i p is within

  pub found_after : first + length run ≤ p → at (entries_of before first run after) p ≡ at after p
  found_after le = at_below first before (numbered first run ++ after) p stored.0 (omega arith) ∙ at_below (first + length run) (numbered first run) after p (below_numbered (first + length run) first run (omega arith)) le

  pub put_before_run : (v : V) → p < first → entries_of (put before p v) first run after ≡ put (entries_of before first run after) p v
  put_before_run v lt = sym (put_until before (numbered first run ++ after) p v (from_less first (p + 1) (numbered first run ++ after) (omega arith) behind))

  pub stored_before : (v : V) → p < first → AreStored (put before p v) first run after
  stored_before v lt = (below_put first p v before lt stored.0, stored.1)

  pub put_in_run : (i : ℕ) (v : V) → p ≡ first + i → i < length run → entries_of before first (set run i v) after ≡ put (entries_of before first run after) p v
  put_in_run i v is within = sym (put_below first before (numbered first run ++ after) p v stored.0 (omega arith) ∙ ap (λ (r : List (ℕ × V)). before ++ r) (put_in first run after i p v is within))

  pub put_behind : (v : V) → first + length run ≤ p → entries_of before first run (put after p v) ≡ put (entries_of before first run after) p v
  put_behind v le =
      sym (put_below first before (numbered first run ++ after) p v stored.0 (omega arith)
      ∙ ap (λ (r : List (ℕ × V)). before ++ r) (put_below (first + length run) (numbered first run) after p v (below_numbered (first + length run) first run (omega arith)) le))

  pub stored_behind : (v : V) → first + length run ≤ p → AreStored before first run (put after p v)
  stored_behind v le = (stored.0, from_put (first + length run) p v after le stored.1)

  pub put_at_end : (v : V) → p ≡ first + length run → at after p ≡ None → entries_of before first (run ++ v ∷ []) after ≡ put (entries_of before first run after) p v
  put_at_end v is none =
      let later : AllFrom (p + 1) after = from_absent p after (from_less (first + length run) p after (omega arith) stored.1) none in
      sym (put_below first before (numbered first run ++ after) p v stored.0 (omega arith) ∙ ap (λ (r : List (ℕ × V)). before ++ r) (put_end first run after p v is later))

  pub stored_at_end : (v : V) → p ≡ first + length run → at after p ≡ None → AreStored before first (run ++ v ∷ []) after
  stored_at_end v is none =
      let later : AllFrom (p + 1) after = from_absent p after (from_less (first + length run) p after (omega arith) stored.1) none in
      (stored.0, from_less (p + 1) (first + length (run ++ v ∷ [])) after (omega (arith, length-append run (v ∷ []))) later)

some_within : {V : Type 0} (xs : List V) (i : ℕ) → i < length xs → slice_get xs i ≡ None → ⊥
some_within [] i within none = omega arith
some_within (x ∷ xs) zero within none = absurd (cc (none))
some_within (x ∷ xs) (suc i) within none = some_within xs i (omega arith) none

-- a place behind a run's first one that has nothing is behind the run
pub is_behind : {V : Type 0} (before : List (ℕ × V)) (first : ℕ) (run : List V) (after : List (ℕ × V)) (stored : AreStored before first run after) (p : ℕ) → first ≤ p → at (entries_of before first run after) p ≡ None → first + length run ≤ p
is_behind before first run after stored p le none = elim (in_order p (first + length run)) [
  | inl lt ↦ absurd (some_within run (p - first) (omega arith) (sym (found_in before first run after stored p (p - first) (omega arith) (omega arith)) ∙ none))
  | inr (inl here) ↦ omega arith
  | inr (inr after) ↦ omega arith
]

first_two : (q p : ℕ) (ks : List ℕ) → IsStrictlySortedBy nat_cmp (q ∷ p ∷ ks) → q < p
unfolding IsStrictlySortedBy
first_two q p ks sorted = ranked q p Less (sym sorted.0.0)

-- a table without rows, and rows in order
module _ {V : Type 0} where
  pub nothing : (before : List (ℕ × V)) (first : ℕ) (run : List V) (after : List (ℕ × V)) → entries_of before first run after ≡ [] → (before ≡ []) × (run ≡ []) × (after ≡ [])
  nothing [] first [] after is = (refl, refl, is)
  nothing [] first (v ∷ run) after is = absurd (cc (is))
  nothing (row ∷ before) first run after is = absurd (cc (is))

  -- what comes behind a row in order stands at later places
  pub later_rows : (q : ℕ) (rows : List (ℕ × V)) → IsStrictlySortedBy nat_cmp (q ∷ keys_of rows) → AllFrom (q + 1) rows
  later_rows q [] sorted = tt
  later_rows q (row ∷ rows) sorted =
      let next : q < row.0 = first_two q row.0 (keys_of rows) sorted in
      (omega arith, from_less (row.0 + 1) (q + 1) rows (omega arith) (later_rows row.0 rows (sorted_tail nat_cmp q (row.0 ∷ keys_of rows) sorted)))

  pub first_from : (a : ℕ) (rows : List (ℕ × V)) (p : ℕ) (v : V) → AllFrom a rows → slice_get rows 0 ≡ Some (p, v) → a ≤ p
  first_from a [] p v all is = absurd (cc (is))
  first_from a (row ∷ rows) p v all is = let same : row ≡ (p, v) = cc (is) in omega (arith, all.0, ap (λ (r : ℕ × V). r.0) same)

  -- what follows a run is taken into it
  pub drawn : (before : List (ℕ × V)) (first : ℕ) (run : List V) (after rest : List (ℕ × V)) (p : ℕ) (v : V) → p ≡ first + length run → after ≡ (p, v) ∷ rest → entries_of before first (run ++ v ∷ []) rest ≡ entries_of before first run after
  drawn before first run after rest p v is same = ap (λ (r : List (ℕ × V)). before ++ r) (sym (one_more first run rest p v is) ∙ sym (ap (λ (r : List (ℕ × V)). numbered first run ++ r) same))

  all_kept : (a p : ℕ) (rows : List (ℕ × V)) → AllFrom a rows → p ≤ a → rows_from rows p ≡ rows
  all_kept a p [] all le = refl
  all_kept a p (row ∷ rows) all le = ap (λ (b : Bool). cond b (row ∷ rows_from rows p) (rows_from rows p)) (le-leb p row.0 (omega (arith, all.0))) ∙ ap (λ (r : List (ℕ × V)). row ∷ r) (all_kept a p rows all.1 le)

  none_kept : (a p : ℕ) (rows : List (ℕ × V)) → AllBelow a rows → a ≤ p → rows_from rows p ≡ []
  none_kept a p [] all le = refl
  none_kept a p (row ∷ rows) all le = ap (λ (b : Bool). cond b (row ∷ rows_from rows p) (rows_from rows p)) (lt-leb p row.0 (omega (arith, all.0))) ∙ none_kept a p rows all.1 le

  by_row : {P : Type 0} (p : ℕ) (row : ℕ × V) (rows found : List (ℕ × V)) → rows_from (row ∷ rows) p ≡ found → (p ≤ row.0 → row ∷ rows_from rows p ≡ found → P) → (row.0 < p → rows_from rows p ≡ found → P) → P
  by_row p row rows found is kept left = elim (in_order p row.0) [
    | inl before ↦ kept (omega arith) (sym (ap (λ (b : Bool). cond b (row ∷ rows_from rows p) (rows_from rows p)) (le-leb p row.0 (omega arith))) ∙ is)
    | inr (inl here) ↦ kept (omega arith) (sym (ap (λ (b : Bool). cond b (row ∷ rows_from rows p) (rows_from rows p)) (le-leb p row.0 (omega arith))) ∙ is)
    | inr (inr after) ↦ left after (sym (ap (λ (b : Bool). cond b (row ∷ rows_from rows p) (rows_from rows p)) (lt-leb p row.0 after)) ∙ is)
  ]

  none_later : (p q : ℕ) (rows : List (ℕ × V)) → p ≤ q → rows_from rows p ≡ [] → rows_from rows q ≡ []
  none_later p q [] le is = refl
  none_later p q (row ∷ rows) le is = by_row p row rows [] is (λ from more. absurd (cc (more))) (λ before more. ap (λ (b : Bool). cond b (row ∷ rows_from rows q) (rows_from rows q)) (lt-leb q row.0 (omega arith)) ∙ none_later p q rows le more)

  -- the first row from p on stands there or later, and below what all stand below
  pub head_from : (p : ℕ) (rows : List (ℕ × V)) (k : ℕ) (v : V) (more : List (ℕ × V)) → rows_from rows p ≡ (k, v) ∷ more → p ≤ k
  head_from p [] k v more is = absurd (cc (is))
  head_from p (row ∷ rows) k v more is = by_row p row rows ((k, v) ∷ more) is (λ from same. let one : row ≡ (k, v) = cc (same) in omega (arith, ap (λ (r : ℕ × V). r.0) one)) (λ before rest. head_from p rows k v more rest)

  head_below : (a p : ℕ) (rows : List (ℕ × V)) (k : ℕ) (v : V) (more : List (ℕ × V)) → AllBelow a rows → rows_from rows p ≡ (k, v) ∷ more → k < a
  head_below a p [] k v more all is = absurd (cc (is))
  head_below a p (row ∷ rows) k v more all is = by_row p row rows ((k, v) ∷ more) is (λ from same. let one : row ≡ (k, v) = cc (same) in omega (arith, all.0, ap (λ (r : ℕ × V). r.0) one)) (λ before rest. head_below a p rows k v more all.1 rest)

  -- in rows in order the next one is followed by those behind it
  pub next_is : (p : ℕ) (rows : List (ℕ × V)) (k : ℕ) (v : V) (more : List (ℕ × V)) → IsStrictlySortedBy nat_cmp (keys_of rows) → rows_from rows p ≡ (k, v) ∷ more → IsNext rows p k v
  next_is p [] k v more sorted is = absurd (cc (is))
  next_is p (row ∷ rows) k v more sorted is =
      by_row p row rows ((k, v) ∷ more) is
      (λ from same.
      let one : row.0 ≡ k = let e : row ≡ (k, v) = cc (same) in ap (λ (r : ℕ × V). r.0) e in
      let later : AllFrom (k + 1) rows = from_less (row.0 + 1) (k + 1) rows (omega arith) (later_rows row.0 rows sorted) in
      let behind : rows_from (row ∷ rows) (k + 1) ≡ rows = ap (λ (b : Bool). cond b (row ∷ rows_from rows (k + 1)) (rows_from rows (k + 1))) (lt-leb (k + 1) row.0 (omega arith)) ∙ all_kept (k + 1) (k + 1) rows later (omega arith) in
      let here : rows_from rows p ≡ rows = all_kept (k + 1) p rows later (omega arith) in
      is ∙ ap (λ (r : List (ℕ × V)). (k, v) ∷ r) (let e : more ≡ rows_from rows p = cc (same) in e ∙ here ∙ sym behind))
      (λ before rest.
      let le : p ≤ k = head_from p rows k v more rest in
      ap (λ (b : Bool). cond b (row ∷ rows_from rows p) (rows_from rows p)) (lt-leb p row.0 before)
      ∙ next_is p rows k v more (sorted_tail nat_cmp row.0 (keys_of rows) sorted) rest
      ∙ ap (λ (r : List (ℕ × V)). (k, v) ∷ r) (sym (ap (λ (b : Bool). cond b (row ∷ rows_from rows (k + 1)) (rows_from rows (k + 1))) (lt-leb (k + 1) row.0 (omega arith)))))

  -- the next of the first rows is the next of all
  pub next_of_first : (a p : ℕ) (rows rest : List (ℕ × V)) (k : ℕ) (v : V) → AllBelow a rows → AllFrom a rest → IsNext rows p k v → IsNext (rows ++ rest) p k v
  next_of_first a p rows rest k v all from is =
      let below : k < a = head_below a p rows k v (rows_from rows (k + 1)) all is in
      let le : p ≤ k = head_from p rows k v (rows_from rows (k + 1)) is in
      filter-append (λ row. nat_le p row.0) rows rest
      ∙ ap (λ (r : List (ℕ × V)). r ++ rows_from rest p) is
      ∙ ap (λ (r : List (ℕ × V)). (k, v) ∷ (rows_from rows (k + 1) ++ r)) (all_kept a p rest from (omega arith) ∙ sym (all_kept a (k + 1) rest from (omega arith)))
      ∙ ap (λ (r : List (ℕ × V)). (k, v) ∷ r) (sym (filter-append (λ row. nat_le (k + 1) row.0) rows rest))

  -- and the next of the others, where the first have none
  pub next_of_rest : (p : ℕ) (rows rest : List (ℕ × V)) (k : ℕ) (v : V) → rows_from rows p ≡ [] → IsNext rest p k v → IsNext (rows ++ rest) p k v
  next_of_rest p rows rest k v none is =
      let le : p ≤ k = head_from p rest k v (rows_from rest (k + 1)) is in
      filter-append (λ row. nat_le p row.0) rows rest
      ∙ ap (λ (r : List (ℕ × V)). r ++ rows_from rest p) none
      ∙ is
      ∙ ap (λ (r : List (ℕ × V)). (k, v) ∷ (r ++ rows_from rest (k + 1))) (sym (none_later p (k + 1) rows (omega arith) none))
      ∙ ap (λ (r : List (ℕ × V)). (k, v) ∷ r) (sym (filter-append (λ row. nat_le (k + 1) row.0) rows rest))

  pub none_of_all : (p : ℕ) (rows rest : List (ℕ × V)) → rows_from rows p ≡ [] → rows_from rest p ≡ [] → rows_from (rows ++ rest) p ≡ []
  none_of_all p rows rest none no_more = filter-append (λ row. nat_le p row.0) rows rest ∙ ap (λ (r : List (ℕ × V)). r ++ rows_from rest p) none ∙ no_more

  -- the next place of a run
  pub next_of_run : (q : ℕ) (vs : List V) (p i : ℕ) (v : V) → p ≤ q + i → ((0 < i) → p ≡ q + i) → slice_get vs i ≡ Some v → IsNext (numbered q vs) p (q + i) v
  next_of_run q [] p i v le more is = absurd (cc (is))
  next_of_run q (w ∷ vs) p zero v le more is =
      let same : w ≡ v = cc (is) in
      all_kept q p (numbered q (w ∷ vs)) (from_numbered q q (w ∷ vs) (omega arith)) (omega arith)
      ∙ ap (λ (x : V). (q, x) ∷ numbered (q + 1) vs) same
      ∙ ap (λ (k : ℕ). (k, v) ∷ numbered (q + 1) vs) (omega arith)
      ∙ ap (λ (r : List (ℕ × V)). (q + 0, v) ∷ r)
      (sym (ap (λ (b : Bool). cond b ((q, w) ∷ rows_from (numbered (q + 1) vs) (q + 0 + 1)) (rows_from (numbered (q + 1) vs) (q + 0 + 1))) (lt-leb (q + 0 + 1) q (omega arith))
      ∙ all_kept (q + 1) (q + 0 + 1) (numbered (q + 1) vs) (from_numbered (q + 1) (q + 1) vs (omega arith)) (omega arith)))
  next_of_run q (w ∷ vs) p (suc i) v le more is =
      let here : p ≡ q + suc i = more (omega arith) in
      let k : q + 1 + i ≡ q + suc i = omega arith in
      next_of_rest p ((q, w) ∷ []) (numbered (q + 1) vs) (q + suc i) v
      (ap (λ (b : Bool). cond b ((q, w) ∷ []) []) (lt-leb p q (omega arith)))
      (subst (λ (j : ℕ). IsNext (numbered (q + 1) vs) p j v) k (next_of_run (q + 1) vs p i v (omega arith) (λ _. omega arith) is))

  pub none_of_run : (q : ℕ) (vs : List V) (p : ℕ) → length vs ≤ p - q → rows_from (numbered q vs) p ≡ []
  none_of_run q [] p le = refl
  none_of_run q (v ∷ vs) p le = none_kept (q + length (v ∷ vs)) p (numbered q (v ∷ vs)) (below_numbered (q + length (v ∷ vs)) q (v ∷ vs) (omega arith)) (omega arith)

  at_itself : (p : ℕ) (v : V) (rows : List (ℕ × V)) → remove_entry (is_at (nat_cmp p)) ((p, v) ∷ rows) ≡ rows
  at_itself p v rows = ap (λ o. cond (is_eq o) rows ((p, v) ∷ remove_entry (is_at (nat_cmp p)) rows)) (sym (nat_cmp_is p p Equal refl))

  -- a row that is put at a place without one and taken away again
  pub put_back : (p : ℕ) (v : V) (rows : List (ℕ × V)) → at rows p ≡ None → remove_entry (is_at (nat_cmp p)) (put rows p v) ≡ rows
  put_back p v [] none = at_itself p v []
  put_back p v (row ∷ rows) none = elim (in_order p row.0) [
    | inl before ↦ ap (remove_entry (is_at (nat_cmp p))) (put_before row.0 row.1 rows p v before) ∙ at_itself p v (row ∷ rows)
    | inr (inl here) ↦ let there : at (row ∷ rows) p ≡ Some row.1 = at_here row.0 row.1 rows p here in absurd (cc (none, there))
    | inr (inr after) ↦
        ap (remove_entry (is_at (nat_cmp p))) (put_after row.0 row.1 rows p v after)
        ∙ ap (λ o. cond (is_eq o) (put rows p v) (row ∷ remove_entry (is_at (nat_cmp p)) (put rows p v))) (sym (nat_cmp_is p row.0 Greater after))
        ∙ ap (λ r. row ∷ r) (put_back p v rows (sym (at_after row.0 row.1 rows p after) ∙ none))
  ]

  -- an empty table's run may begin anywhere
  pub begins : (before : List (ℕ × V)) (first : ℕ) (run : List V) (after : List (ℕ × V)) (p : ℕ) → entries_of before first run after ≡ [] → AreStored before p run after × (entries_of before p run after ≡ entries_of before first run after)
  begins [] first [] [] p is = ((tt, tt), refl)
  begins [] first [] (row ∷ after) p is = absurd (cc (is))
  begins [] first (v ∷ run) after p is = absurd (cc (is))
  begins (row ∷ before) first run after p is = absurd (cc (is))

  pub above_rows : (q : ℕ) (rows : List (ℕ × V)) → ((k d : ℕ) → k < length (keys_of rows) → nat_cmp q (get_or (keys_of rows) k d) ≡ Less) → AllFrom (q + 1) rows
  above_rows q [] above = tt
  above_rows q (row ∷ rows) above =
      let next : q < row.0 = ranked q row.0 Less (sym (above 0 0 (omega arith))) in
      (omega arith, above_rows q rows (λ k d lt. above (suc k) d (omega arith)))

  pub same_place : (rows : List (ℕ × V)) (p : ℕ) (v : V) (q : ℕ) (w : V) (rest : List (ℕ × V)) → slice_get rows 0 ≡ Some (p, v) → rows ≡ (q, w) ∷ rest → p ≡ q
  same_place [] p v q w rest first is = absurd (cc (first))
  same_place (row ∷ rows) p v q w rest first is =
      let one : row ≡ (p, v) = cc (first) in
      let other : row ≡ (q, w) = cc (is) in
      sym (ap (λ (r : ℕ × V). r.0) one) ∙ ap (λ (r : ℕ × V). r.0) other

-- what a call that writes first answered, by cases
module _ {T E A P Q : Type 0} where
  pub ok_weaker : (r : Result (Result T E) A) → (P → Q) → IfOk r (λ w. OnOk w P) → IfOk r (λ w. OnOk w Q)
  ok_weaker (Err e) f h = tt
  ok_weaker (Ok (Ok x)) f h = f h
  ok_weaker (Ok (Err e)) f h = tt

  pub by_written : {X : Type 0} (r : Result (Result T E) A) → IfOk r (λ w. OnOk w P) → IfOk r (λ w. OnErr w Q) → OnErr r Q → (P → X) → (Q → X) → X
  by_written (Err e) put refused err f g = g err
  by_written (Ok (Ok x)) put refused err f g = f put
  by_written (Ok (Err e)) put refused err f g = g refused

pub any_err : {T E P : Type 0} (r : Result T E) → P → OnErr r P
any_err (Ok x) p = tt
any_err (Err e) p = p

pub is_nothing : {X : Type 0} (o : Option X) → is_some o ≡ false → o ≡ None
is_nothing None is = refl
is_nothing (Some x) is = absurd (cc (is))

pub by_option : {X P R : Type 0} {Q S : X → Type 0} (o : Option X) → MatchOption o P Q → (P → R) → ((x : X) → Q x → S x) → MatchOption o R S
by_option None h f g = f h
by_option (Some x) h f g = g x h
