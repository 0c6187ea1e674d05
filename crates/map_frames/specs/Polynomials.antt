-- Polynomials over GF(2), as their coefficients from the highest on, and bits in the order in which they are sent.
use Rattle.std.specs.Prelude.{ℕ, zero, suc, ◌+◌, ◌*◌, ◌/◌, ◌%◌, ◌==◌, Bool, true, false, if◌then◌else◌, List, [], ◌∷◌}
use Rattle.std.specs.Prelude.{◌++◌, length, replicate, flat_map}
use Rattle.std.specs.List.{list_any}

-- ---- polynomials

-- the sum of two coefficients
abbrev pub sum_of : Bool → Bool → Bool
sum_of false d = d
sum_of true false = true
sum_of true true = false

-- the sum of two polynomials whose first coefficients are of the same power
unfoldable pub plus : List Bool → List Bool → List Bool
plus [] ds = ds
plus (c ∷ cs) [] = c ∷ cs
plus (c ∷ cs) (d ∷ ds) = sum_of c d ∷ plus cs ds

-- the coefficients below x^n of the polynomial that is the sum of these powers
unfoldable pub below : ℕ → List ℕ → List Bool
below zero powers = []
below (suc n) powers = list_any (λ k. k == n) powers ∷ below n powers

-- what so many steps of long division leave of a dividend, where the divisor's first coefficient is 1 and these follow
-- it
unfoldable pub left_of : List Bool → ℕ → List Bool → List Bool
left_of divisor zero ds = ds
left_of divisor (suc m) [] = []
left_of divisor (suc m) (d ∷ ds) = left_of divisor m (if d then plus ds divisor else ds)

-- the remainder by x^n and lower powers: of a message times x^n, of which the first n coefficients are complemented
unfoldable pub remainder : List Bool → List Bool → List Bool
remainder divisor message =
    left_of divisor (length message) (plus (replicate (length divisor) true) (message ++ replicate (length divisor) false))

-- ---- bits

abbrev pub is_odd : ℕ → Bool
is_odd n = (n % 2) == 1

-- the lowest bits of a number, so many, from the lowest on
unfoldable pub bits : ℕ → ℕ → List Bool
bits zero n = []
bits (suc k) n = is_odd n ∷ bits k (n / 2)

-- the number of which these are the bits, from the lowest on
unfoldable pub number_of : List Bool → ℕ
number_of [] = 0
number_of (b ∷ bs) = (if b then 1 else 0) + 2 * number_of bs

-- a byte's bits are sent from the lowest on
abbrev pub byte_bits : ℕ → List Bool
byte_bits byte = bits 8 byte

abbrev pub all_bits : List ℕ → List Bool
all_bits bytes = flat_map byte_bits bytes

-- ---- division bit by bit

-- one step of a division, where one more coefficient of the dividend comes on top of what is left
unfoldable pub fed_one : List Bool → List Bool → Bool → List Bool
fed_one divisor [] d = []
fed_one divisor (c ∷ cs) d = if sum_of c d then plus (cs ++ false ∷ []) divisor else cs ++ false ∷ []

unfoldable pub fed : List Bool → List Bool → List Bool → List Bool
fed divisor cs [] = cs
fed divisor cs (d ∷ ds) = fed divisor (fed_one divisor cs d) ds
