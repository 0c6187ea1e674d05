-- What is released of one more output.
use Rattle.std.proofs.Common.{◌≡◌, ℕ, zero, suc, ◌+◌, ◌-◌, ◌≤◌, Bool, true, false, not, cond, List, [], ◌∷◌, ◌++◌}
use Rattle.std.proofs.Common.{length, take, drop, filter, Option, Some, slice_get, refl, sym, ap, ◌∙◌, arith}
use Rattle.std.proofs.Math.ListN.{drop_of_length-le}
use Rattle.std.proofs.lemmas.List.{length-take, length-take-le, take_all}
use Rattle.grant_machine.specs.declared.output.Output.{Output}
use Rattle.command_log.specs.Values.{gapless, outputs_of_values}
use Rattle.command_log.specs.View.{LogView, IsLog, output_at}
use Rattle.command_log.proofs.Callers.{output_among, values_length}
use Rattle.map_release.specs.declared.numbered.Numbered.{Numbered}
use Rattle.map_release.specs.Released.{applied_outputs, numbered, has_ended, released}

pub numbered_length : (p : ℕ) (os : List Output) → length (numbered p os) ≡ length os
numbered_length p [] = refl
numbered_length p (o ∷ os) = ap (λ n. suc n) (numbered_length (p + 1) os)

pub numbered_push : (p : ℕ) (os : List Output) (o : Output) → numbered p (os ++ o ∷ []) ≡ numbered p os ++ record { place = p + length os; output = o } ∷ []
numbered_push p [] o = let place : p ≡ p + 0 = omega arith in ap (λ n. record { place = n; output = o } ∷ []) place
numbered_push p (x ∷ os) o =
    let place : p + 1 + length os ≡ p + suc (length os) = omega arith in
    ap (λ (xs : List Numbered). record { place = p; output = x } ∷ xs) (numbered_push (p + 1) os o ∙ ap (λ n. numbered (p + 1) os ++ record { place = n; output = o } ∷ []) place)

pub drop_front : {X : Type 0} (n : ℕ) (xs ys : List X) → n ≤ length xs → drop n (xs ++ ys) ≡ drop n xs ++ ys
drop_front zero xs ys le = refl
drop_front (suc n) [] ys le = absurd (omega arith)
drop_front (suc n) (x ∷ xs) ys le = drop_front n xs ys (omega arith)

filter_append : {X : Type 0} (p : X → Bool) (xs ys : List X) → filter p (xs ++ ys) ≡ filter p xs ++ filter p ys
filter_append p [] ys = refl
filter_append {X} p (x ∷ xs) ys =
    elim (p x) as (λ b. cond b (x ∷ filter p (xs ++ ys)) (filter p (xs ++ ys)) ≡ cond b (x ∷ filter p xs) (filter p xs) ++ filter p ys) [
      | true ↦ ap (λ (zs : List X). x ∷ zs) (filter_append p xs ys)
      | false ↦ filter_append p xs ys
    ]

-- what one more output adds
abbrev pub added : ℕ → ℕ → Output → List Numbered
added now place o = cond (has_ended now o) [] (record { place = place; output = o } ∷ [])

filter_one : (now place : ℕ) (o : Output) → filter (λ x. not (has_ended now x.output)) (record { place = place; output = o } ∷ []) ≡ added now place o
filter_one now place o =
    elim (has_ended now o) as (λ b. cond {A = List Numbered} (not b) (record { place = place; output = o } ∷ []) [] ≡ cond {A = List Numbered} b [] (record { place = place; output = o } ∷ [])) [ true ↦ refl | false ↦ refl ]

released_push : (now cursor : ℕ) (os : List Output) (o : Output) → cursor ≤ length os → released now cursor (os ++ o ∷ []) ≡ released now cursor os ++ added now (1 + length os) o
released_push now cursor os o le =
    ap (λ (xs : List Numbered). filter (λ x. not (has_ended now x.output)) (drop cursor xs)) (numbered_push 1 os o)
    ∙ ap (λ (xs : List Numbered). filter (λ x. not (has_ended now x.output)) xs) (drop_front cursor (numbered 1 os) (record { place = 1 + length os; output = o } ∷ []) (omega (arith, numbered_length 1 os)))
    ∙ filter_append (λ x. not (has_ended now x.output)) (drop cursor (numbered 1 os)) (record { place = 1 + length os; output = o } ∷ [])
    ∙ ap (λ (xs : List Numbered). released now cursor os ++ xs) (filter_one now (1 + length os) o)

take_next : {X : Type 0} (n : ℕ) (x : X) (xs : List X) → slice_get xs n ≡ Some x → (take (suc n) xs ≡ take n xs ++ x ∷ []) × (length (take n xs) ≡ n)
take_next n x [] is = absurd (cc (is))
take_next {X} zero x (y ∷ ys) is = let same : y ≡ x = cc in (ap (λ (z : X). z ∷ []) same, refl)
take_next {X} (suc n) x (y ∷ ys) is = let rest = take_next n x ys is in (ap (λ (zs : List X). y ∷ zs) rest.0, ap (λ k. suc k) rest.1)

-- behind the cursor there is nothing yet
pub released_first : (now cursor : ℕ) (outputs : List Output) → released now cursor (take cursor outputs) ≡ []
released_first now cursor outputs =
    ap (filter (λ (x : Numbered). not (has_ended now x.output))) (drop_of_length-le (numbered 1 (take cursor outputs)) (omega (arith, numbered_length 1 (take cursor outputs), length-take cursor outputs)))

-- one more output is passed
pub released_next : (now cursor passed : ℕ) (outputs : List Output) (o : Output) → cursor ≤ passed → slice_get outputs passed ≡ Some o
    → released now cursor (take (passed + 1) outputs) ≡ released now cursor (take passed outputs) ++ added now (passed + 1) o
released_next now cursor passed outputs o le is =
    let next = take_next passed o outputs is in
    let more : passed + 1 ≡ suc passed = omega arith in
    let place : 1 + length (take passed outputs) ≡ passed + 1 = omega (arith, next.1) in
    ap (λ n. released now cursor (take n outputs)) more
    ∙ ap (released now cursor) next.0
    ∙ released_push now cursor (take passed outputs) o (omega (arith, next.1))
    ∙ ap (λ n. released now cursor (take passed outputs) ++ added now n o) place

-- the look-up of the next place finds the next output
pub looked_up : (log : LogView) (passed : ℕ) (o : Option Output) → o ≡ output_at log (passed + 1) → slice_get (applied_outputs log) passed ≡ o
looked_up log passed o is =
    let place : passed + 1 - 1 ≡ passed = omega arith in
    ap (slice_get (applied_outputs log)) (sym place) ∙ sym (output_among log (passed + 1) (omega arith)) ∙ sym is

-- as many outputs as values that are applied
pub applied_length : (log : LogView) → IsLog log → length (applied_outputs log) ≡ log.applied
applied_length log is = length-take-le log.applied (outputs_of_values (gapless log.learned)) (omega (arith, values_length (gapless log.learned), is.gapless))

-- all of them were passed
pub released_all : (now cursor passed : ℕ) (log : LogView) → IsLog log → log.applied ≤ passed → released now cursor (take passed (applied_outputs log)) ≡ released now cursor (applied_outputs log)
released_all now cursor passed log is le = ap (released now cursor) (take_all passed (applied_outputs log) (omega (arith, applied_length log is)))

-- where no more is applied, nothing stands behind the cursor
pub none_behind : (now cursor : ℕ) (log : LogView) → log.applied ≤ cursor → released now cursor (applied_outputs log) ≡ []
none_behind now cursor log le =
    ap (filter (λ (x : Numbered). not (has_ended now x.output)))
    (drop_of_length-le (numbered 1 (applied_outputs log)) (omega (arith, numbered_length 1 (applied_outputs log), length-take log.applied (outputs_of_values (gapless log.learned)))))

rest_empty : (b : Bool) (x : Numbered) (xs : List Numbered) → cond (not b) (x ∷ xs) xs ≡ [] → xs ≡ []
rest_empty true x xs none = none
rest_empty false x xs none = absurd (cc (none))

-- an output behind the cursor that hasn't ended is released
pub is_released : (now p cursor passed : ℕ) (os : List Output) (o : Output) → cursor ≤ passed → slice_get os passed ≡ Some o → has_ended now o ≡ false
    → filter (λ (x : Numbered). not (has_ended now x.output)) (drop cursor (numbered p os)) ≡ [] → ⊥
is_released now p cursor passed [] o le is runs none = absurd (cc (is))
is_released now p zero zero (x ∷ os) o le is runs none =
    let same : x ≡ o = cc in
    let ended : has_ended now x ≡ false = ap (has_ended now) same ∙ runs in
    let rest : List Numbered = filter (λ (y : Numbered). not (has_ended now y.output)) (numbered (p + 1) os) in
    let here : Numbered = record { place = p; output = x } in
    let some : here ∷ rest ≡ [] = sym (ap (λ (b : Bool). cond {A = List Numbered} (not b) (here ∷ rest) rest) ended) ∙ none in
    absurd (cc (some))
is_released now p zero (suc passed) (x ∷ os) o le is runs none =
    is_released now (p + 1) zero passed os o (omega arith) is runs (rest_empty (has_ended now x) (record { place = p; output = x }) (filter (λ (y : Numbered). not (has_ended now y.output)) (numbered (p + 1) os)) none)
is_released now p (suc cursor) zero (x ∷ os) o le is runs none = absurd (omega arith)
is_released now p (suc cursor) (suc passed) (x ∷ os) o le is runs none = is_released now (p + 1) cursor passed os o (omega arith) is runs none
