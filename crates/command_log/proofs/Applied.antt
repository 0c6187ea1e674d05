-- Applied values and their outputs, as a log learns and advances.
use Rattle.std.proofs.Common.{◌≡◌, ℕ, zero, suc, ◌+◌, ◌-◌, ◌<◌, ◌≤◌, true, ◌&&◌, nat_le, nat_lt, is_some, List, [], ◌∷◌}
use Rattle.std.proofs.Common.{◌++◌, length, take, map, Option, Some, None, slice_get, refl, sym, ap, ◌∙◌, subst, arith}
use Rattle.std.specs.Option.{option_copied, IfSome}
use Rattle.std.specs.Ordering.{nat_cmp}
use Rattle.std.specs.BTreeMap.{insert_entry}
use Rattle.std.specs.Borrow.{Bor}
use Rattle.std.proofs.lemmas.Bool.{le-leb, ltb-true, ltb-false}
use Rattle.std.proofs.lemmas.List.{length-append, take-append-le}
use Rattle.std.proofs.lemmas.Option.{slice_get_past, slice_get_within, slice_get_read}
use Rattle.std.proofs.Common.{get_or}
use Rattle.ballots.specs.Limits.{most_places}
use Rattle.flow_state.specs.Rows.{Rows as Tables}
use Rattle.grant_machine.specs.declared.output.Output.{Output}
use Rattle.grant_machine.specs.Steps.{step}
use Rattle.grant_machine.specs.Runs.{rows_after}
use Rattle.command_log.specs.Reading.{command_of}
use Rattle.command_log.specs.Values.{Rows, gapless, outputs_of_values}
use Rattle.command_log.specs.View.{AreRows, IsLog, LogView, is_place, output_at, value_at, with_learned}
use Rattle.command_log.proofs.Rows.{value_is_at, values_grow, are_rows_put, put_same}
use Rattle.command_log.proofs.Outputs.{output_among}
use Rattle.command_log.proofs.Runs.{outputs_first, outputs_push, rows_push}

-- what a slice's `get` gives
pub found : {X : Type 0} (r : Option (Bor X)) (items : List X) (i : ℕ) → is_some r ≡ nat_lt i (length items) → IfSome r (λ x. x.now ≡ get_or items i x.now) → option_copied r ≡ slice_get items i
found None items i some same = sym (slice_get_past items i (ltb-false i (length items) (sym some)))
found (Some x) items i some same = sym (slice_get_read items (length items) i x.now refl (ltb-true i (length items) (sym some)) same)

-- the output of a place, among those of the applied values
pub output_is : (rows : Rows) (n place : ℕ) (items : List Output) → (place ≡ 0 → ⊥) → items ≡ outputs_of_values (take n (gapless rows))
    → slice_get items (place - 1) ≡ output_at record { learned = rows; applied = n } place
output_is rows n place items some items_are =
    ap (λ (os : List Output). slice_get os (place - 1)) (items_are ∙ outputs_first n (gapless rows))
    ∙ sym (output_among record { learned = rows; applied = n } place some)

-- a value learned at a new place leaves the applied ones
pub log_put : (rows new : Rows) (n q : ℕ) (v : List ℕ) → IsLog record { learned = rows; applied = n } → 1 ≤ q → q ≤ most_places → value_at rows q ≡ None → new ≡ insert_entry nat_cmp rows q v
    → IsLog record { learned = new; applied = n } × (take n (gapless new) ≡ take n (gapless rows))
log_put rows new n q v log lo hi none is =
    let grown = values_grow 1 q v rows log.rows lo none in
    let values : gapless new ≡ gapless rows ++ grown.0 = ap gapless is ∙ grown.1 in (
      record {
        rows = subst (AreRows 1) (sym is) (are_rows_put 1 q v rows log.rows lo hi);
        gapless = (let few = log.gapless in omega (arith, ap length values, length-append (gapless rows) grown.0));
      },
      ap (take n) values ∙ take-append-le n (gapless rows) grown.0 log.gapless,
    )

-- the next value is learned where there are more without a gap than applied
pub next_is : (rows : Rows) (n : ℕ) → IsLog record { learned = rows; applied = n } → value_at rows (n + 1) ≡ slice_get (gapless rows) n
next_is rows n log = let place : n + 1 ≡ 1 + n = omega arith in ap (value_at rows) place ∙ value_is_at 1 n rows log.rows log.gapless

pub is_last : {X : Type 0} (n : ℕ) (xs : List X) → slice_get xs n ≡ None → length xs ≤ n
is_last n [] none = omega arith
is_last zero (x ∷ xs) none = absurd (cc (none))
is_last (suc n) (x ∷ xs) none = omega (arith, is_last n xs none)

-- a value more is learned, so not all are applied
pub not_all : (rows : Rows) (n : ℕ) (v : List ℕ) (view : LogView) → slice_get (gapless rows) n ≡ Some v → record { learned = rows; applied = n } ≡ view → view.applied ≡ length (gapless view.learned) → ⊥
not_all rows n v view some is all =
    let within : n < length (gapless rows) = slice_get_within (gapless rows) n v some in
    let more : view.applied < length (gapless view.learned) = subst (λ (w : LogView). w.applied < length (gapless w.learned)) is within in
    omega arith

take_next : {X : Type 0} (n : ℕ) (x : X) (xs : List X) → slice_get xs n ≡ Some x → take (suc n) xs ≡ take n xs ++ x ∷ []
take_next n x [] is = absurd (cc (is))
take_next {X} zero x (y ∷ ys) is = let same : y ≡ x = cc in ap (λ (z : X). z ∷ []) same
take_next {X} (suc n) x (y ∷ ys) is = ap (λ (zs : List X). y ∷ zs) (take_next n x ys is)

-- one more value is applied
pub advanced : (values : List (List ℕ)) (n : ℕ) (v : List ℕ) (items : List Output) (m new : Tables) (o : Output)
    → items ≡ outputs_of_values (take n values) → m ≡ rows_after (map command_of (take n values)) → slice_get values n ≡ Some v
    → o ≡ (step m (command_of v)).output → new ≡ (step m (command_of v)).rows
    → (items ++ o ∷ [] ≡ outputs_of_values (take (suc n) values)) × (new ≡ rows_after (map command_of (take (suc n) values)))
advanced values n v items m new o items_are m_is at_n o_is new_is =
    let more : take (suc n) values ≡ take n values ++ v ∷ [] = take_next n v values at_n in (
      ap (λ (os : List Output). os ++ o ∷ []) items_are
          ∙ ap (λ (p : Output). outputs_of_values (take n values) ++ p ∷ []) (o_is ∙ ap (λ (t : Tables). (step t (command_of v)).output) m_is)
          ∙ sym (ap outputs_of_values more ∙ outputs_push (take n values) v),
      new_is ∙ ap (λ (t : Tables). (step t (command_of v)).rows) m_is ∙ sym (ap (λ (vs : List (List ℕ)). rows_after (map command_of vs)) more ∙ rows_push (take n values) v),
    )

-- what a look-up of the next place finds
pub next_found : (rows : Rows) (n next : ℕ) (o : Option (List ℕ)) → IsLog record { learned = rows; applied = n } → next ≡ n → o ≡ value_at rows (next + 1) → o ≡ slice_get (gapless rows) n
next_found rows n next o log is found = found ∙ ap (λ (k : ℕ). value_at rows (k + 1)) is ∙ next_is rows n log

-- the log after one more value is applied
pub log_push : (rows : Rows) (n : ℕ) (v : List ℕ) → IsLog record { learned = rows; applied = n } → slice_get (gapless rows) n ≡ Some v → IsLog record { learned = rows; applied = suc n }
log_push rows n v log is = record { rows = log.rows; gapless = slice_get_within (gapless rows) n v is }

-- learning the value of a place once more changes nothing
pub log_same : (v : LogView) (q : ℕ) (value : List ℕ) → AreRows 1 v.learned → value_at v.learned q ≡ Some value → v ≡ with_learned v q value
log_same v q value are at_q = let same : insert_entry nat_cmp v.learned q value ≡ v.learned = put_same 1 q value v.learned are at_q in λ i. record { learned = sym same i; applied = v.applied }

pub is_a_place : (p : ℕ) → 1 ≤ p → p ≤ most_places → is_place p ≡ true
is_a_place p lo hi = ap (λ b. b && nat_le p most_places) (le-leb 1 p lo) ∙ le-leb p most_places hi
