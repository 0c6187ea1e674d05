use Rattle.std.proofs.Common.{◌≡◌, ℕ, Bool, ◌+◌, ◌<◌, ◌^◌, drop}
use Rattle.grant_machine_parts.specs.Gaps.{AreGaps}
use Rattle.grant_machine_parts.proofs.Counted.{width_of}
use Rattle.grant_machine_parts.proofs.gaps.minislots.Given as goal

-- the minislots of the gaps so far, with those of the rest
abbrev pub invariant-loop-gap : goal.invariant-loop-gap
invariant-loop-gap l = (free : ℕ → Bool) (len : ℕ) → AreGaps free 0 len l.gaps → len < 2 ^ 16
    → (l.count + width_of (drop l.gap-index l.gaps) ≡ width_of l.gaps)
