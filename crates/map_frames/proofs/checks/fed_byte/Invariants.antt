use Rattle.std.proofs.Common.{◌≡◌, ℕ, ◌-◌, ◌<◌, ◌^◌}
use Rattle.map_frames.specs.Polynomials.{bits, fed, byte_bits}
use Rattle.map_frames.proofs.checks.fed_byte.Given as goal

abbrev pub invariant-loop-i : goal.invariant-loop-i
invariant-loop-i l = (n : ℕ) → l.generator < 2 ^ n → l.start < 2 ^ n
    → (l.left < 2 ^ n) × (fed (bits n l.generator) (bits n l.left) (bits (8 - l._i) l.rest) ≡ fed (bits n l.generator) (bits n l.start) (byte_bits l.byte))
