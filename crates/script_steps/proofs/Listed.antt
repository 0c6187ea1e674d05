-- Letters that wait, as they are listed.
use Rattle.std.proofs.Common.{◌≡◌, ℕ, zero, suc, ◌+◌, ◌-◌, ◌<◌, ◌≤◌, Bool, true, false, cond, not, ◌||◌, ◌==◌, List}
use Rattle.std.proofs.Common.{[], ◌∷◌}
use Rattle.std.proofs.Common.{◌++◌, Result, Ok, Err, OnOk, OnErr, filter, length, set, slice_get, take, drop, refl}
use Rattle.std.proofs.Common.{sym, ap}
use Rattle.std.proofs.Common.{subst, ◌∙◌, arith}
use Rattle.std.specs.List.{range_with_len}
use Rattle.std.proofs.lemmas.List.{length-append, length-set, take-append-drop, take_all}
use Rattle.std.proofs.lemmas.List.Elements.{filter-append}
use Rattle.std.proofs.lemmas.List.Folds.{list_any-append}
use Rattle.script_steps.specs.declared.kept.Sent.{Sent}
use Rattle.script_steps.specs.Names.{has_come, waiting}
use Rattle.script_steps.specs.Kept.{AreListed, is_waiting}
use Rattle.script_steps.proofs.Finding.{IsMarked, range_in_two, there}

pub range_more : (a n : ℕ) → range_with_len a (n + 1) ≡ range_with_len a n ++ (a + n) ∷ []
range_more a zero = ap (λ k. k ∷ []) (omega arith)
range_more a (suc n) =
    let count : suc n + 1 ≡ suc (n + 1) = omega arith in
    let last : a + 1 + n ≡ a + suc n = omega arith in
    ap (range_with_len a) count ∙ ap (λ r. a ∷ r) (range_more (a + 1) n ∙ ap (λ k. range_with_len (a + 1) n ++ k ∷ []) last)

-- what is none of some, and of the rest none of others, is none of both
none_of_both : (xs ys : List ℕ) (i : ℕ) → not (has_come (xs ++ ys) i) ≡ cond (not (has_come xs i)) (not (has_come ys i)) false
none_of_both xs ys i = ap not (list_any-append (λ j. j == i) xs ys) ∙ not_or (has_come xs i) (has_come ys i)
  where
    not_or : (a b : Bool) → not (a || b) ≡ cond (not a) (not b) false
    not_or true b = refl
    not_or false b = refl

filter_twice_if : (p q : ℕ → Bool) (x : ℕ) (xs : List ℕ) (b : Bool) → p x ≡ b → filter q (filter p xs) ≡ filter (λ y. cond (p y) (q y) false) xs
    → filter q (cond b (x ∷ filter p xs) (filter p xs)) ≡ cond (cond b (q x) false) (x ∷ filter (λ y. cond (p y) (q y) false) xs) (filter (λ y. cond (p y) (q y) false) xs)
filter_twice_if p q x xs true is rest = ap (λ r. cond (q x) (x ∷ r) r) rest
filter_twice_if p q x xs false is rest = rest

filter_twice : (p q : ℕ → Bool) (xs : List ℕ) → filter q (filter p xs) ≡ filter (λ y. cond (p y) (q y) false) xs
filter_twice p q [] = refl
filter_twice p q (x ∷ xs) = filter_twice_if p q x xs (p x) refl (filter_twice p q xs)

filter_range : (p q : ℕ → Bool) (a n : ℕ) → ((i : ℕ) → i < a + n → p i ≡ q i) → filter p (range_with_len a n) ≡ filter q (range_with_len a n)
filter_range p q a zero same = refl
filter_range p q a (suc n) same =
    let rest = filter_range p q (a + 1) n (λ i below. same i (omega (arith, below))) in
    ap (λ b. cond b (a ∷ filter p (range_with_len (a + 1) n)) (filter p (range_with_len (a + 1) n))) (same a (omega arith))
    ∙ ap (λ r. cond (q a) (a ∷ r) r) rest

-- the numbers that are listed, once those that were sent since are counted, and those that came are taken out
pub counted_up : (sent : List Sent) (came listed : List ℕ) (counted taken : ℕ) → IsMarked sent came → AreListed (length sent) came listed counted taken
    → filter (λ i. is_waiting (slice_get sent i)) (listed ++ range_with_len counted (length sent - counted)) ≡ waiting (length sent) came
counted_up sent came listed counted taken marked all =
    let n : ℕ = length sent in
    let waits : ℕ → Bool = λ i. is_waiting (slice_get sent i) in
    let early : List ℕ = take taken came in
    let late : List ℕ = drop taken came in
    let count : counted + (n - counted) ≡ n = omega (arith, all.below) in
    let from : 0 + counted ≡ counted = omega arith in
    let whole : range_with_len 0 n ≡ range_with_len 0 counted ++ range_with_len counted (n - counted) =
    ap (range_with_len 0) (sym count) ∙ range_in_two 0 counted (n - counted) ∙ ap (λ k. range_with_len 0 counted ++ range_with_len k (n - counted)) from in
    let front : filter waits listed ≡ filter waits (range_with_len 0 counted) =
    ap (filter waits) all.listed_are ∙ filter_twice (λ i. not (has_come early i)) waits (range_with_len 0 counted)
    ∙ filter_range (λ y. cond (not (has_come early y)) (waits y) false) waits 0 counted (λ i below. both i (omega (arith, below, all.below))) in
    filter-append waits listed (range_with_len counted (n - counted)) ∙ ap (λ r. r ++ filter waits (range_with_len counted (n - counted))) front
    ∙ sym (filter-append waits (range_with_len 0 counted) (range_with_len counted (n - counted))) ∙ ap (filter waits) (sym whole)
    ∙ filter_range waits (λ i. not (has_come came i)) 0 n (λ i below. mark i (omega (arith, below)))
  where
    twice : (a b : Bool) → cond a (cond a b false) false ≡ cond a b false
    twice true b = refl
    twice false b = refl

    mark : (i : ℕ) → i < length sent → is_waiting (slice_get sent i) ≡ not (has_come came i)
    mark i within =
        let (s, here) = there sent i within in
        ap is_waiting here ∙ ap not (marked i s here)

    parts : (i : ℕ) → not (has_come came i) ≡ cond (not (has_come (take taken came) i)) (not (has_come (drop taken came) i)) false
    parts i = ap (λ c. not (has_come c i)) (sym (take-append-drop taken came)) ∙ none_of_both (take taken came) (drop taken came) i

    both : (i : ℕ) → i < length sent → cond (not (has_come (take taken came) i)) (is_waiting (slice_get sent i)) false ≡ is_waiting (slice_get sent i)
    both i within =
        let is = mark i within ∙ parts i in
        ap (λ b. cond (not (has_come (take taken came) i)) b false) is ∙ twice (not (has_come (take taken came) i)) (not (has_come (drop taken came) i)) ∙ sym is

-- and all are listed so then
pub listed_all : (n : ℕ) (came now : List ℕ) (counted all : ℕ) → now ≡ waiting n came → counted ≡ n → all ≡ length came → AreListed n came now counted all
listed_all n came now counted all is is_counted is_all =
    let whole : take all came ≡ came = take_all all came (omega (arith, is_all)) in record {
      below = omega (arith, is_counted);
      within = omega (arith, is_all);
      listed_are = is ∙ ap (λ k. waiting k came) (sym is_counted) ∙ ap (waiting counted) (sym whole);
    }

pub listed_sent : (n m : ℕ) (came listed : List ℕ) (counted taken : ℕ) → n ≤ m → AreListed n came listed counted taken → AreListed m came listed counted taken
listed_sent n m came listed counted taken more before =
    record { below = omega (arith, more, before.below); within = before.within; listed_are = before.listed_are }

take_front : (n : ℕ) (xs ys : List ℕ) → n ≤ length xs → take n (xs ++ ys) ≡ take n xs
take_front zero xs ys within = refl
take_front (suc n) [] ys within = let no : ⊥ = omega (arith, within) in absurd no
take_front (suc n) (x ∷ xs) ys within = ap (λ r. x ∷ r) (take_front n xs ys (omega (arith, within)))

pub listed_came : (n : ℕ) (came now listed : List ℕ) (i counted taken : ℕ) → now ≡ came ++ i ∷ [] → AreListed n came listed counted taken → AreListed n now listed counted taken
listed_came n came now listed i counted taken is before =
    let long : length now ≡ length came + 1 = ap length is ∙ length-append came (i ∷ []) in record {
      below = before.below;
      within = omega (arith, long, before.within);
      listed_are = before.listed_are ∙ ap (waiting counted) (sym (ap (take taken) is ∙ take_front taken came (i ∷ []) before.within));
    }

pub listed_set : (sent : List Sent) (came now listed : List ℕ) (i counted taken : ℕ) (a : Sent) → now ≡ came ++ i ∷ [] → AreListed (length sent) came listed counted taken
    → AreListed (length (set sent i a)) now listed counted taken
listed_set sent came now listed i counted taken a is before =
    subst (λ (n : ℕ). AreListed n now listed counted taken) (sym (length-set sent i a)) (listed_came (length sent) came now listed i counted taken is before)

-- done or not
pub listed_either : {E : Type 0} (r : Result (Unit {0}) E) (sent more now : List Sent) (came listed : List ℕ) (counted taken : ℕ) → OnOk r (now ≡ sent ++ more) → OnErr r (now ≡ sent)
    → AreListed (length sent) came listed counted taken → AreListed (length now) came listed counted taken
listed_either (Ok u) sent more now came listed counted taken done same before =
    let long : length now ≡ length sent + length more = ap length done ∙ length-append sent more in
    listed_sent (length sent) (length now) came listed counted taken (omega (arith, long)) before
listed_either (Err e) sent more now came listed counted taken done same before =
    subst (λ (s : List Sent). AreListed (length s) came listed counted taken) (sym same) before
