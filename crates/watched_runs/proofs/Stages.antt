-- Rows between two numbers, one after another: what crates above cite too.
use Rattle.std.proofs.Common.{◌≡◌, ℕ, zero, suc, ◌+◌, ◌<◌, ◌≤◌, min, List, [], ◌∷◌, ◌++◌, length, get_or, take, drop}
use Rattle.std.proofs.Common.{refl, sym, ap, ◌∙◌, arith}
use Rattle.std.proofs.lemmas.List.{drop-append-le, length-take-le, take_more}
use Rattle.watched_runs.specs.Marks.{between}

-- none yet
pub none_between : {X : Type 0} (n : ℕ) (xs : List X) → between (n, n) xs ≡ []
none_between zero xs = refl
none_between (suc n) [] = refl
none_between (suc n) (x ∷ xs) = none_between n xs

-- one more
pub one_between : {X : Type 0} (n i : ℕ) (xs : List X) (x : X) → n ≤ i → i < length xs → x ≡ get_or xs i x → between (n, i + 1) xs ≡ between (n, i) xs ++ x ∷ []
one_between n i xs x from below is =
    let long : length (take i xs) ≡ i = length-take-le i xs (omega (arith, below)) in
    let within : n ≤ length (take i xs) = omega (arith, from, long) in
    ap (drop n) (take_more xs i x below ∙ ap (λ y. take i xs ++ y ∷ []) (sym is)) ∙ drop-append-le n (take i xs) (x ∷ []) within

-- no more than there are
drop_none : {X : Type 0} (n : ℕ) → drop {A = X} n [] ≡ []
drop_none zero = refl
drop_none (suc n) = refl

drop_min : {X : Type 0} (n m : ℕ) (xs : List X) → length xs ≤ m → drop (min n m) xs ≡ drop n xs
drop_min n m [] short = drop_none (min n m) ∙ sym (drop_none n)
drop_min zero m (x ∷ xs) short = let none : min 0 m ≡ 0 = omega arith in ap (λ k. drop k (x ∷ xs)) none
drop_min (suc n) zero (x ∷ xs) short = let no : ⊥ = omega (arith, short) in absurd no
drop_min (suc n) (suc m) (x ∷ xs) short =
    let less : min (suc n) (suc m) ≡ suc (min n m) = omega arith in
    ap (λ k. drop k (x ∷ xs)) less ∙ drop_min n m xs (omega (arith, short))

take_min : {X : Type 0} (m : ℕ) (xs : List X) → take (min m (length xs)) xs ≡ take m xs
take_min zero xs = let none : min 0 (length xs) ≡ 0 = omega arith in ap (λ k. take k xs) none
take_min (suc m) [] = let none : min (suc m) 0 ≡ 0 = omega arith in ap (λ k. take k []) none
take_min (suc m) (x ∷ xs) =
    let less : min (suc m) (suc (length xs)) ≡ suc (min m (length xs)) = omega arith in
    ap (λ k. take k (x ∷ xs)) less ∙ ap (λ r. x ∷ r) (take_min m xs)

take_short : {X : Type 0} (m : ℕ) (xs : List X) → length (take m xs) ≤ m
take_short zero xs = omega arith
take_short (suc m) [] = omega arith
take_short (suc m) (x ∷ xs) = let rest = take_short m xs in omega (arith, rest)

pub clipped : {X : Type 0} (xs : List X) (from to n t f : ℕ) → n ≡ length xs → t ≡ min to n → f ≡ min from t → between (f, t) xs ≡ between (from, to) xs
clipped xs from to n t f is_n is_t is_f =
    let whole : take t xs ≡ take to xs = ap (λ k. take k xs) (is_t ∙ ap (min to) is_n) ∙ take_min to xs in
    ap (λ k. drop k (take t xs)) is_f ∙ drop_min from t (take t xs) (take_short t xs) ∙ ap (drop from) whole
