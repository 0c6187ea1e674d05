-- At most one time near a reference has given low bits.
use Rattle.std.proofs.Common.{◌≡◌, ℕ, arith}
use Rattle.minislot_time.specs.Wire.{IsNear}

pub near_once : (bits near t u : ℕ) → IsNear bits near t → IsNear bits near u → t ≡ u
near_once bits near t u h k = omega (arith, h.low, k.low)
