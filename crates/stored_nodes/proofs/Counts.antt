-- How far a count came.
use Rattle.std.proofs.Common.{◌≡◌, ◌+◌, ◌<◌, ◌≤◌, ℕ, arith}

pub none_below : (m : ℕ) → 0 ≤ m
none_below m = omega arith

pub more_below : (n m end : ℕ) → n < end → end ≡ m → n + 1 ≤ m
more_below n m end below is = omega arith

-- a count that came to the end is the whole
pub reached : (n m end : ℕ) → n ≤ m → end ≤ n → end ≡ m → n ≡ m
reached n m end below past is = omega arith
