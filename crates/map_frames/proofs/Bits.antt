-- Numbers and their bits.
use Rattle.std.proofs.Common.{◌≡◌, ℕ, zero, suc, ◌+◌, ◌-◌, ◌*◌, ◌/◌, ◌%◌, ◌^◌, ◌<◌, ◌≤◌, Bool, true, false, cond, not}
use Rattle.std.proofs.Common.{map, List, [], ◌∷◌, ◌++◌, length, replicate, get_or, take, append-nil, refl, sym, ap, ◌∙◌}
use Rattle.std.proofs.Common.{arith, inl, inr, ◌⊎◌, nat_eq}
use Rattle.std.proofs.lemmas.Bool.{eqb-true, eqb-false}
use Rattle.std.proofs.lemmas.List.{take_more, take_all}
use Rattle.std.proofs.lemmas.Grind.{flat_map-append}
use Rattle.std.specs.Int.Bits.{bit_xor}
use Rattle.std.proofs.lemmas.Nat.{xor_shr, xor_mod, mod_below}
use Rattle.std.proofs.Math.Nat.{pow-suc}
use Rattle.map_frames.specs.Polynomials.{sum_of, plus, remainder, is_odd, bits, number_of, byte_bits, all_bits, fed_one}
use Rattle.map_frames.specs.Polynomials.{fed}
use Rattle.map_frames.specs.Checks.{check_by}
use Rattle.map_frames.proofs.Divisions.{remainder_fed, fed-append}

length-bits : (n k : ℕ) → length (bits n k) ≡ n
unfolding bits
length-bits zero k = refl
length-bits (suc n) k = ap suc (length-bits n (k / 2))

half_below : (n k : ℕ) → k < 2 ^ suc n → k / 2 < 2 ^ n
half_below n k below = omega (arith, pow-suc 2 n)

below_one : (k : ℕ) → k < 2 ^ 0 → k ≡ 0
below_one k below = let one : k < 1 = below in omega arith

-- a number below 2^n has no more bits
bits_more : (n k : ℕ) → k < 2 ^ n → bits (suc n) k ≡ bits n k ++ false ∷ []
unfolding bits
bits_more zero k below = rw (below_one k below) refl
bits_more (suc n) k below = ap (λ (t : List Bool). is_odd k ∷ t) (bits_more n (k / 2) (half_below n k below))

-- ---- sums

rest_of_two : (k : ℕ) → (k % 2 ≡ 0) ⊎ (k % 2 ≡ 1)
rest_of_two k = two_rests (k % 2) (mod_below k 2 (omega arith))
  where
    two_rests : (r : ℕ) → r < 2 → (r ≡ 0) ⊎ (r ≡ 1)
    two_rests zero below = inl refl
    two_rests (suc zero) below = inr refl
    two_rests (suc (suc r)) below = absurd (omega arith)

odd_rests : (a b : ℕ) → (a ≡ 0) ⊎ (a ≡ 1) → (b ≡ 0) ⊎ (b ≡ 1) → nat_eq (bit_xor a b) 1 ≡ sum_of (nat_eq a 1) (nat_eq b 1)
odd_rests a b (inl p) (inl q) = rw (p, q) refl
odd_rests a b (inl p) (inr q) = rw (p, q) refl
odd_rests a b (inr p) (inl q) = rw (p, q) refl
odd_rests a b (inr p) (inr q) = rw (p, q) refl

odd_xor : (a b : ℕ) → is_odd (bit_xor a b) ≡ sum_of (is_odd a) (is_odd b)
odd_xor a b = ap (λ (n : ℕ). nat_eq n 1) (xor_mod a b 1) ∙ odd_rests (a % 2) (b % 2) (rest_of_two a) (rest_of_two b)

bits_xor : (n a b : ℕ) → bits n (bit_xor a b) ≡ plus (bits n a) (bits n b)
unfolding bits plus
bits_xor zero a b = refl
bits_xor (suc n) a b =
    let half : bit_xor a b / 2 ≡ bit_xor (a / 2) (b / 2) = xor_shr a b 1 in
    rw (odd_xor a b, half, bits_xor n (a / 2) (b / 2)) refl

-- ---- one step of a division

pub fed_same : (n g k : ℕ) (b : Bool) → k < 2 ^ n → sum_of (is_odd k) b ≡ false → bits n (k / 2) ≡ fed_one (bits n g) (bits n k) b
fed_same zero g k b below is = unfold bits in unfold fed_one in refl
fed_same (suc n) g k b below is =
    let top : bits (suc n) k ≡ is_odd k ∷ bits n (k / 2) = unfold bits in refl in
    let open_step : fed_one (bits (suc n) g) (is_odd k ∷ bits n (k / 2)) b
    ≡ cond (sum_of (is_odd k) b) (plus (bits n (k / 2) ++ false ∷ []) (bits (suc n) g)) (bits n (k / 2) ++ false ∷ []) = unfold fed_one in refl in
    rw (top, open_step, is) (bits_more n (k / 2) (half_below n k below))

pub fed_other : (n g k : ℕ) (b : Bool) → k < 2 ^ n → sum_of (is_odd k) b ≡ true → bits n (bit_xor (k / 2) g) ≡ fed_one (bits n g) (bits n k) b
fed_other zero g k b below other = unfold bits in unfold fed_one in refl
fed_other (suc n) g k b below other =
    let top : bits (suc n) k ≡ is_odd k ∷ bits n (k / 2) = unfold bits in refl in
    let open_step : fed_one (bits (suc n) g) (is_odd k ∷ bits n (k / 2)) b
    ≡ cond (sum_of (is_odd k) b) (plus (bits n (k / 2) ++ false ∷ []) (bits (suc n) g)) (bits n (k / 2) ++ false ∷ []) = unfold fed_one in refl in
    rw (top, open_step, other, bits_xor (suc n) (k / 2) g, bits_more n (k / 2) (half_below n k below)) refl

-- ---- the check

next_bit : (b : Bool) (bs : List Bool) (k m : ℕ) → is_odd k ≡ b → number_of bs + k / 2 + 1 ≡ m → number_of (not b ∷ bs) + k + 1 ≡ m * 2
unfolding number_of
next_bit true bs k m odd is = let one : k % 2 ≡ 1 = eqb-true (k % 2) 1 odd in omega arith
next_bit false bs k m even is = let other : k % 2 ≡ 1 → ⊥ = eqb-false (k % 2) 1 even in let small : k % 2 < 2 = mod_below k 2 (omega arith) in omega arith

-- the complement of the lowest bits
complement : (n k : ℕ) → k < 2 ^ n → number_of (map not (bits n k)) + k + 1 ≡ 2 ^ n
complement zero k below = unfold bits in unfold number_of in rw (below_one k below) refl
complement (suc n) k below =
    let top : bits (suc n) k ≡ is_odd k ∷ bits n (k / 2) = unfold bits in refl in
    rw (top, pow-suc 2 n) (next_bit (is_odd k) (map not (bits n (k / 2))) k (2 ^ n) refl (complement n (k / 2) (half_below n k below)))

-- what a division bit by bit leaves, beginning with ones, is the complement of the check
pub check_fed : (n g k : ℕ) (generator : List Bool) (bytes : List ℕ) → generator ≡ bits (suc n) g → replicate (suc n) true ≡ bits (suc n) (2 ^ suc n - 1) → k < 2 ^ suc n
    → bits (suc n) k ≡ fed (bits (suc n) g) (bits (suc n) (2 ^ suc n - 1)) (all_bits bytes) → check_by generator bytes + k + 1 ≡ 2 ^ suc n
unfolding check_by
check_fed n g k generator bytes is ones below reached =
    let long : length generator ≡ suc n = ap length is ∙ length-bits (suc n) g in
    let same : remainder generator (all_bits bytes) ≡ bits (suc n) k =
    remainder_fed generator (all_bits bytes) (omega arith)
    ∙ ap (λ (m : ℕ). fed generator (replicate m true) (all_bits bytes)) long
    ∙ ap (λ (t : List Bool). fed generator t (all_bits bytes)) ones
    ∙ ap (λ (t : List Bool). fed t (bits (suc n) (2 ^ suc n - 1)) (all_bits bytes)) is
    ∙ sym reached in
    ap (λ (t : List Bool). number_of (map not t) + k + 1) same ∙ complement (suc n) k below

-- ---- bytes

-- one bit more of a byte, of which i were taken
pub fed_next : (divisor cs next all : List Bool) (i rest : ℕ) → i < 8 → next ≡ fed_one divisor cs (is_odd rest)
    → fed divisor cs (bits (8 - i) rest) ≡ all → fed divisor next (bits (8 - (i + 1)) (rest / 2)) ≡ all
fed_next divisor cs next all i rest below is before =
    let count : 8 - i ≡ suc (8 - (i + 1)) = omega arith in
    let more : fed divisor cs (bits (suc (8 - (i + 1))) rest) ≡ fed divisor (fed_one divisor cs (is_odd rest)) (bits (8 - (i + 1)) (rest / 2)) = unfold bits in unfold fed in refl in
    rw is (sym more ∙ ap (λ (m : ℕ). fed divisor cs (bits m rest)) (sym count) ∙ before)

pub fed_end : (divisor cs all : List Bool) (i rest : ℕ) → 8 ≤ i → fed divisor cs (bits (8 - i) rest) ≡ all → cs ≡ all
fed_end divisor cs all i rest end is =
    let none : 8 - i ≡ 0 = omega arith in
    let here : fed divisor cs (bits 0 rest) ≡ cs = unfold bits in unfold fed in refl in
    sym here ∙ ap (λ (m : ℕ). fed divisor cs (bits m rest)) (sym none) ∙ is

-- one byte more
pub fed_more : (divisor start left next : List Bool) (bytes : List ℕ) (i byte : ℕ) → i < length bytes → byte ≡ get_or bytes i 0
    → left ≡ fed divisor start (all_bits (take i bytes)) → next ≡ fed divisor left (byte_bits byte) → next ≡ fed divisor start (all_bits (take (i + 1) bytes))
fed_more divisor start left next bytes i byte below here before is =
    let whole : take (i + 1) bytes ≡ take i bytes ++ byte ∷ [] = take_more bytes i 0 below ∙ ap (λ (b : ℕ). take i bytes ++ b ∷ []) (sym here) in
    let split : all_bits (take i bytes ++ byte ∷ []) ≡ all_bits (take i bytes) ++ byte_bits byte =
    flat_map-append byte_bits (take i bytes) (byte ∷ []) ∙ ap (λ (t : List Bool). all_bits (take i bytes) ++ t) (append-nil (byte_bits byte)) in
    is ∙ ap (λ (t : List Bool). fed divisor t (byte_bits byte)) before ∙ sym (fed-append divisor start (all_bits (take i bytes)) (byte_bits byte))
    ∙ ap (λ (t : List Bool). fed divisor start t) (sym split) ∙ ap (λ (t : List ℕ). fed divisor start (all_bits t)) (sym whole)

pub fed_whole : (divisor start left : List Bool) (bytes : List ℕ) (i : ℕ) → length bytes ≤ i → left ≡ fed divisor start (all_bits (take i bytes)) → left ≡ fed divisor start (all_bits bytes)
fed_whole divisor start left bytes i end is = is ∙ ap (λ (t : List ℕ). fed divisor start (all_bits t)) (take_all i bytes end)
