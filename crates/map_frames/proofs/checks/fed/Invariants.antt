use Rattle.std.proofs.Common.{◌≡◌, ℕ, ◌<◌, ◌^◌, take}
use Rattle.map_frames.specs.Polynomials.{bits, fed, all_bits}
use Rattle.map_frames.proofs.checks.fed.Given as goal

abbrev pub invariant-loop-byte : goal.invariant-loop-byte
invariant-loop-byte l = (n : ℕ) → l.generator < 2 ^ n → l.start < 2 ^ n
    → (l.left < 2 ^ n) × (bits n l.left ≡ fed (bits n l.generator) (bits n l.start) (all_bits (take l.byte-index l.bytes)))
