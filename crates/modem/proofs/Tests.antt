-- What tests of leases and intervals say, over numbers.
use Rattle.std.proofs.Common.{◌≡◌, ℕ, ◌<◌, ◌≤◌, true, ◌==◌, ◌&&◌, nat_le, nat_lt, arith}
use Rattle.std.proofs.lemmas.Bool.Decides.{nat_tests}

pub at_tells : (a x b y u v s e m : ℕ) → (((a == x) && (nat_le s m && nat_lt m e)) && ((b == y) && (u == v))) ≡ true → (a ≡ x) × (b ≡ y) × (u ≡ v) × (s ≤ m) × (m < e)
at_tells a x b y u v s e m h = (grind (arith, nat_tests), grind (arith, nat_tests), grind (arith, nat_tests), grind (arith, nat_tests), grind (arith, nat_tests))

pub at_from : (a x b y u v s e m : ℕ) → a ≡ x → b ≡ y → u ≡ v → s ≤ m → m < e → (((a == x) && (nat_le s m && nat_lt m e)) && ((b == y) && (u == v))) ≡ true
at_from a x b y u v s e m p q r from to = grind (arith, nat_tests)

pub covers_tells : (a x b y f l m : ℕ) → (((a == x) && (b == y)) && (nat_le f m && nat_le m l)) ≡ true → (a ≡ x) × (b ≡ y) × (f ≤ m) × (m ≤ l)
covers_tells a x b y f l m h = (grind (arith, nat_tests), grind (arith, nat_tests), grind (arith, nat_tests), grind (arith, nat_tests))

pub covers_from : (a x b y f l m : ℕ) → a ≡ x → b ≡ y → f ≤ m → m ≤ l → (((a == x) && (b == y)) && (nat_le f m && nat_le m l)) ≡ true
covers_from a x b y f l m p q from to = grind (arith, nat_tests)

pub lasts_tells : (a x b y l m : ℕ) → (((a == x) && (b == y)) && nat_le m l) ≡ true → (a ≡ x) × (b ≡ y) × (m ≤ l)
lasts_tells a x b y l m h = (grind (arith, nat_tests), grind (arith, nat_tests), grind (arith, nat_tests))

pub lasts_from : (a x b y l m : ℕ) → a ≡ x → b ≡ y → m ≤ l → (((a == x) && (b == y)) && nat_le m l) ≡ true
lasts_from a x b y l m p q to = grind (arith, nat_tests)

pub equal_tells : (a p b q c r d s e t : ℕ) → ((a == p) && ((b == q) && ((c == r) && ((d == s) && (e == t))))) ≡ true → (a ≡ p) × (b ≡ q) × (c ≡ r) × (d ≡ s) × (e ≡ t)
equal_tells a p b q c r d s e t h = (grind (arith, nat_tests), grind (arith, nat_tests), grind (arith, nat_tests), grind (arith, nat_tests), grind (arith, nat_tests))
