-- What is written of tables.
use Rattle.std.proofs.Common.{◌≡◌, ◌⊎◌, inl, inr, ℕ, zero, suc, ◌+◌, ◌^◌, ◌<◌, ◌≤◌, List, [], ◌∷◌, ◌++◌, length, map}
use Rattle.std.proofs.Common.{take, slice_get, get_or, Option, Some, None, Result, Ok, Err, OnOk, All, sym, ap, subst}
use Rattle.std.proofs.Common.{◌∙◌, append_assoc, append-nil, add-one, arith}
use Rattle.std.specs.List.{flat_map, AllByRecursion}
use Rattle.std.proofs.lemmas.List.{length-map}
use Rattle.std.proofs.lemmas.List.Concat.{flat_map-cons}
use Rattle.std.proofs.lemmas.List.Elements.{recursion_from_All}
use Rattle.std.proofs.lemmas.Grind.{flat_map-append}
use Rattle.std.proofs.lemmas.Option.{slice_get_cases}
use Rattle.flow_state.specs.Rows.{FlowRow, Rows, Table, lent_flow}
use Rattle.flow_state.specs.Sound.{IsSound, Rise}
use Rattle.row_bytes.specs.Fits.{FitsFlow, FitsLease, FitsRequest, FitsRow, FitsTable}
use Rattle.row_bytes.specs.Spelling.{table_spelling}

-- numbers that rise from above low to high are no more than lie between
rising_few : (low : ℕ) (xs : List ℕ) (high : ℕ) → low ≤ high → Rise low xs high → length xs + low ≤ high
rising_few low [] high le r = omega arith
rising_few low (x ∷ xs) high le r = let rest = rising_few x xs high r.1 r.2 in omega (arith, r.0)

-- the flows of a table are few
pub few_lent : (t : Table) → IsSound t → length (map lent_flow t.flows) < 2 ^ 16
few_lent t sound =
    let few = rising_few 0 (map (λ (f : FlowRow). f.sid) t.flows) (length t.leases) (omega arith) sound.rising in
    omega (arith, sound.few, length-map t.flows (λ (f : FlowRow). f.sid), length-map t.flows lent_flow)

-- a table that was written fits
pub table_fits : {A B : Type 0} (r : Result A B) (t : Table) → IsSound t → FitsRow t.row → All FitsLease t.leases → All FitsFlow (map lent_flow t.flows) → OnOk r (All FitsRequest t.waiting) → OnOk r (FitsTable t)
table_fits (Err e) t sound row leases flows waiting = tt
table_fits (Ok x) t sound row leases flows waiting = record {
  row = row;
  leases = recursion_from_All FitsLease t.leases leases;
  flows = recursion_from_All FitsFlow (map lent_flow t.flows) flows;
  waiting = recursion_from_All FitsRequest t.waiting waiting;
  leases_count = omega (arith, sound.few);
  flows_count = few_lent t sound;
  waiting_count = omega (arith, sound.room);
}

pub some_is : {X : Type 0} (x y : X) → ◌≡◌ {A = Option X} (Some x) (Some y) → x ≡ y
some_is x y e = cc

pub both_ok : {A B : Type 0} (r : Result A B) (P Q : Type 0) → OnOk r P → OnOk r Q → OnOk r (P × Q)
both_ok (Ok x) P Q p q = (p, q)
both_ok (Err e) P Q p q = tt

-- one table more
pub one_more : (rows : Rows) (k : ℕ) (t : Table) → slice_get rows k ≡ Some t → take (suc k) rows ≡ take k rows ++ t ∷ []
one_more [] k t e = absurd cc
one_more (r ∷ rows) zero t e = let same : r ≡ t = cc in ap (λ (x : Table). x ∷ []) same
one_more (r ∷ rows) (suc k) t e = ap (λ (ts : Rows). r ∷ ts) (one_more rows k t e)

pub all_more : (P : Table → Type 0) (rows : Rows) (t : Table) → AllByRecursion P rows → P t → AllByRecursion P (rows ++ t ∷ [])
all_more P [] t all is = (is, tt)
all_more P (r ∷ rows) t all is = (all.0, all_more P rows t all.1 is)

pub text_more : (rows : Rows) (t : Table) → flat_map table_spelling (rows ++ t ∷ []) ≡ flat_map table_spelling rows ++ table_spelling t
text_more rows t = flat_map-append table_spelling rows (t ∷ []) ∙ ap (λ (s : List ℕ). flat_map table_spelling rows ++ s) (flat_map-cons table_spelling t [] ∙ append-nil (table_spelling t))

pub none_within : {X : Type 0} (xs : List X) (k : ℕ) → slice_get xs k ≡ None → k < length xs → ⊥
none_within xs k none lt = elim (slice_get_cases xs k).1 [ inl h ↦ let some = h.2 in absurd cc | inr h ↦ absurd (omega arith) ]

-- the bytes and the tables so far, with one more
pub table_written : (rows : Rows) (k : ℕ) (start old new : List ℕ) → k < length rows → old ≡ start ++ flat_map table_spelling (take k rows) → AllByRecursion FitsTable (take k rows)
    → ((t : Table) → slice_get rows k ≡ Some t → FitsTable t × (new ≡ old ++ table_spelling t))
    → (new ≡ start ++ flat_map table_spelling (take (k + 1) rows)) × AllByRecursion FitsTable (take (k + 1) rows)
table_written rows k start old new lt so_far all one = by (slice_get_cases rows k).1
  where
    by : ((t : Table) × (k < length rows) × (slice_get rows k ≡ Some t) × (get_or rows k t ≡ t)) ⊎ ((length rows ≤ k) × (slice_get rows k ≡ None))
        → (new ≡ start ++ flat_map table_spelling (take (k + 1) rows)) × AllByRecursion FitsTable (take (k + 1) rows)
    by (inl h) =
        let w = one h.0 h.2 in
        let more : take (k + 1) rows ≡ take k rows ++ h.0 ∷ [] = ap (λ n. take n rows) (add-one k) ∙ one_more rows k h.0 h.2 in
        let text : flat_map table_spelling (take k rows) ++ table_spelling h.0 ≡ flat_map table_spelling (take (k + 1) rows) = sym (text_more (take k rows) h.0) ∙ ap (λ (r : Rows). flat_map table_spelling r) (sym more) in (
          w.1 ∙ ap (λ (s : List ℕ). s ++ table_spelling h.0) so_far ∙ append_assoc start (flat_map table_spelling (take k rows)) (table_spelling h.0) ∙ ap (λ (s : List ℕ). start ++ s) text,
          subst (AllByRecursion FitsTable) (sym more) (all_more FitsTable (take k rows) h.0 all w.0),
        )
    by (inr h) = absurd (omega arith)
