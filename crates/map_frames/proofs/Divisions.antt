-- Long division, bit by bit.
use Rattle.std.proofs.Common.{◌≡◌, ℕ, zero, suc, ◌+◌, ◌<◌, Bool, true, false, cond, List, [], ◌∷◌, ◌++◌, length}
use Rattle.std.proofs.Common.{replicate, refl, sym, ap, ◌∙◌, arith, length-append}
use Rattle.std.proofs.lemmas.List.{length-replicate}
use Rattle.map_frames.specs.Polynomials.{sum_of, plus, left_of, remainder, fed_one, fed}

-- ---- sums of coefficients and of polynomials

sum_comm : (a b : Bool) → sum_of a b ≡ sum_of b a
sum_comm false false = refl
sum_comm false true = refl
sum_comm true false = refl
sum_comm true true = refl

sum_assoc : (a b c : Bool) → sum_of (sum_of a b) c ≡ sum_of a (sum_of b c)
sum_assoc false false false = refl
sum_assoc false false true = refl
sum_assoc false true false = refl
sum_assoc false true true = refl
sum_assoc true false false = refl
sum_assoc true false true = refl
sum_assoc true true false = refl
sum_assoc true true true = refl

sum-false : (a : Bool) → sum_of a false ≡ a
sum-false false = refl
sum-false true = refl

false-sum : (a : Bool) → sum_of false a ≡ a
false-sum false = refl
false-sum true = refl

plus_comm : (cs ds : List Bool) → plus cs ds ≡ plus ds cs
unfolding plus
plus_comm [] [] = refl
plus_comm [] (d ∷ ds) = refl
plus_comm (c ∷ cs) [] = refl
plus_comm (c ∷ cs) (d ∷ ds) = rw (sum_comm c d, plus_comm cs ds) refl

plus_assoc : (cs ds es : List Bool) → plus (plus cs ds) es ≡ plus cs (plus ds es)
unfolding plus
plus_assoc [] ds es = refl
plus_assoc (c ∷ cs) [] es = refl
plus_assoc (c ∷ cs) (d ∷ ds) [] = refl
plus_assoc (c ∷ cs) (d ∷ ds) (e ∷ es) = rw (sum_assoc c d e, plus_assoc cs ds es) refl

-- zeros add nothing
plus_zeros : (cs : List Bool) (n : ℕ) → length cs ≡ n → plus cs (replicate n false) ≡ cs
unfolding plus
plus_zeros [] zero is = refl
plus_zeros [] (suc n) is = absurd (omega arith)
plus_zeros (c ∷ cs) zero is = absurd (omega arith)
plus_zeros (c ∷ cs) (suc n) is = rw (sum-false c, plus_zeros cs n (omega arith)) refl

plus_widened : (cs ds : List Bool) → length cs < length ds → plus (cs ++ false ∷ []) ds ≡ plus cs ds
unfolding plus
plus_widened [] [] shorter = absurd (omega arith)
plus_widened [] (d ∷ ds) shorter = rw (false-sum d) refl
plus_widened (c ∷ cs) [] shorter = absurd (omega arith)
plus_widened (c ∷ cs) (d ∷ ds) shorter = ap (λ (t : List Bool). sum_of c d ∷ t) (plus_widened cs ds (omega arith))

length-plus : (cs ds : List Bool) → length cs ≡ length ds → length (plus cs ds) ≡ length ds
unfolding plus
length-plus [] [] is = refl
length-plus [] (d ∷ ds) is = refl
length-plus (c ∷ cs) [] is = absurd (omega arith)
length-plus (c ∷ cs) (d ∷ ds) is = ap suc (length-plus cs ds (omega arith))

-- ---- one step

after : Bool → List Bool → List Bool → List Bool
after b cs divisor = cond b (plus cs divisor) cs

length-after : (b : Bool) (cs divisor : List Bool) → length cs ≡ length divisor → length (after b cs divisor) ≡ length divisor
unfolding after
length-after true cs divisor is = length-plus cs divisor is
length-after false cs divisor is = is

-- what is left and what is to come may be added before the step or after it
after_added : (b : Bool) (cs ds divisor : List Bool) → length cs < length ds
    → cond b (plus (plus cs ds) divisor) (plus cs ds) ≡ plus (after b (cs ++ false ∷ []) divisor) ds
unfolding after
after_added true cs ds divisor shorter =
    let wide : plus (cs ++ false ∷ []) ds ≡ plus cs ds = plus_widened cs ds shorter in
    ap (λ (t : List Bool). plus t divisor) (sym wide) ∙ plus_assoc (cs ++ false ∷ []) ds divisor
    ∙ ap (λ (t : List Bool). plus (cs ++ false ∷ []) t) (plus_comm ds divisor) ∙ sym (plus_assoc (cs ++ false ∷ []) divisor ds)
after_added false cs ds divisor shorter = sym (plus_widened cs ds shorter)

-- division of the whole dividend is division bit by bit
pub left_fed : (divisor cs ms : List Bool) → 0 < length divisor → length cs ≡ length divisor
    → left_of divisor (length ms) (plus cs (ms ++ replicate (length divisor) false)) ≡ fed divisor cs ms
unfolding left_of fed
left_fed divisor cs [] some is = plus_zeros cs (length divisor) is
left_fed divisor [] (m ∷ ms) some is = absurd (omega arith)
left_fed divisor (c ∷ cs) (m ∷ ms) some is =
    let rest = ms ++ replicate (length divisor) false in
    let long : length rest ≡ length ms + length divisor = length-append ms (replicate (length divisor) false) ∙ ap (λ (n : ℕ). length ms + n) (length-replicate (length divisor) false) in
    let next = after (sum_of c m) (cs ++ false ∷ []) divisor in
    let wide : length (cs ++ false ∷ []) ≡ length divisor = omega (arith, length-append cs (false ∷ [])) in
    let head : plus (c ∷ cs) (m ∷ rest) ≡ sum_of c m ∷ plus cs rest = unfold plus in refl in
    let step : fed_one divisor (c ∷ cs) m ≡ next = unfold fed_one in unfold after in refl in
    rw (head, step) (
    ap (λ (t : List Bool). left_of divisor (length ms) t) (after_added (sum_of c m) cs rest divisor (omega arith))
    ∙ left_fed divisor next ms some (length-after (sum_of c m) (cs ++ false ∷ []) divisor wide))

-- ones at first, a message, and as many zeros as the divisor has coefficients below the first
pub remainder_fed : (divisor ms : List Bool) → 0 < length divisor → remainder divisor ms ≡ fed divisor (replicate (length divisor) true) ms
unfolding remainder
remainder_fed divisor ms some = left_fed divisor (replicate (length divisor) true) ms some (length-replicate (length divisor) true)

pub fed-append : (divisor cs ds es : List Bool) → fed divisor cs (ds ++ es) ≡ fed divisor (fed divisor cs ds) es
unfolding fed
fed-append divisor cs [] es = refl
fed-append divisor cs (d ∷ ds) es = fed-append divisor (fed_one divisor cs d) ds es
