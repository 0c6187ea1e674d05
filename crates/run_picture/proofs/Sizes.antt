-- Where lanes are stays far below 2^64.
use Rattle.std.proofs.Common.{ℕ, ◌*◌, ◌<◌, ◌≤◌, ◌^◌, arith}
use Rattle.std.proofs.lemmas.Nat.{mul-le}

pub lane_fits : (k wide : ℕ) → k < 2 ^ 40 → wide ≤ 136 → k * wide ≤ 2 ^ 40 * 136
lane_fits k wide below narrow = mul-le k wide (2 ^ 40) 136 (omega arith) narrow
