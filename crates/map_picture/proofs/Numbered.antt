-- Numbers above a channel are few, and by round steps.
use Rattle.std.proofs.Common.{◌≡◌, ℕ, zero, suc, ◌+◌, ◌-◌, ◌*◌, ◌/◌, ◌≤◌, ◌^◌, Bool, true, false, if◌then◌else◌, nat_le}
use Rattle.std.proofs.Common.{nat_lt, [], ◌∷◌, length, min, inl, inr, refl, sym, ap, ◌∙◌, arith}
use Rattle.std.proofs.Math.Nat.{min-le_right}
use Rattle.std.proofs.lemmas.List.{length-append}
use Rattle.std.proofs.lemmas.Nat.{pow-add}
use Rattle.map_picture.specs.declared.axis.Span.{Span}
use Rattle.map_picture.specs.Scales.{most_numbers, multiples, number_count, numbers, part_of, step_in, step_of}
use Rattle.map_picture.specs.Scales.{steps_before, ten_after, IsRound, NumbersAreRound}

-- ---- steps

ten_times : (n : ℕ) → 10 * n ≡ n * 10
ten_times n = omega arith

once : (n : ℕ) → n ≡ 1 * n
once n = omega arith

one_more : (b : Bool) (t j : ℕ) → t ≡ 10 ^ j → (i : ℕ) × ((if b then 10 * t else t) ≡ 10 ^ i)
one_more true t j is =
    let up : 10 ^ (j + 1) ≡ 10 ^ j * 10 ^ 1 = pow-add 10 j 1 in
    (j + 1, ap (λ n. 10 * n) is ∙ ten_times (10 ^ j) ∙ sym up)
one_more false t j is = (j, is)

ten_is : (k part : ℕ) → (j : ℕ) × (ten_after k part ≡ 10 ^ j)
ten_is zero part = (0, refl)
ten_is (suc k) part =
    let before = ten_is k part in
    one_more (nat_le (ten_after k part) (part / 5)) (ten_after k part) before.0 before.1

round_by : (a b : Bool) (ten j : ℕ) → ten ≡ 10 ^ j → IsRound (if a then ten else if b then 2 * ten else 5 * ten)
round_by true b ten j is = (1, j, inl refl, is ∙ once (10 ^ j))
round_by false true ten j is = (2, j, inr (inl refl), ap (λ n. 2 * n) is)
round_by false false ten j is = (5, j, inr (inr refl), ap (λ n. 5 * n) is)

round_after : (k part : ℕ) → IsRound (step_in part (ten_after k part))
round_after k part =
    let is = ten_is k part in
    round_by (nat_lt part (ten_after k part)) (nat_lt part (2 * ten_after k part)) (ten_after k part) is.0 is.1

-- ---- how many there are

next : (n : ℕ) → n + 1 ≡ suc n
next n = omega arith

length_multiples : (before step n : ℕ) → length (multiples before step n) ≡ n
length_multiples before step zero = refl
length_multiples before step (suc n) =
    length-append (multiples before step n) ((before + n) * step ∷ []) ∙ ap (λ m. m + 1) (length_multiples before step n) ∙ next n

few_by : (b : Bool) (x most : ℕ) → most ≤ 10 → 1 ≤ most → (if b then 0 else min x (most - 1) + 1) ≤ 10
few_by true x most ten some = omega arith
few_by false x most ten some =
    let low : min x (most - 1) ≤ most - 1 = min-le_right x (most - 1) in
    omega (arith, low, ten, some)

ten_at_most : (b : Bool) → (if b then 10 else 5) ≤ 10
ten_at_most true = omega arith
ten_at_most false = omega arith

one_at_least : (b : Bool) → 1 ≤ (if b then 10 else 5)
one_at_least true = omega arith
one_at_least false = omega arith

as_many : (a b : ℕ) → a ≡ b → b ≤ 10 → a ≤ 10
as_many a b same few = omega (arith, same, few)

few_numbers : (span : Span) → length (numbers span) ≤ 10
few_numbers span =
    let step : ℕ = step_of span in
    let before : ℕ = steps_before span step in
    let few : number_count span step ≤ 10 =
    few_by (nat_lt (span.to / step) before) (span.to / step - before) (most_numbers span) (ten_at_most (nat_lt span.to (10 ^ 11))) (one_at_least (nat_lt span.to (10 ^ 11))) in
    as_many (length (numbers span)) (number_count span step) (length_multiples before step (number_count span step)) few

pub numbers_are_round : NumbersAreRound
numbers_are_round = record { few = few_numbers; round = λ span. round_after 18 (part_of span) }
