-- Where a map has no extent near a time.
use Rattle.std.proofs.Common.{◌≡◌, ℕ, ◌+◌, ◌≤◌, ◌^◌, Option, Some, None, ap, sym, arith, ◌∙◌}
use Rattle.std.specs.Prelude.{IfNone}
use Rattle.std.specs.Option.{option_map_or}
use Rattle.minislot_time.specs.Wire.{IsNear}
use Rattle.map_body.specs.Body.{Body}
use Rattle.map_body.specs.Intervals.{null_offset}
use Rattle.map_body.specs.Heard.{IsExtent}

-- a map whose start doesn't extend near a time to one before which its end is a time has no extent
pub no_extent : (near : ℕ) (map : Body) (len start stop : ℕ) → null_offset map.elements ≡ Some len → ((s : ℕ) → IsNear map.head.start near s → 2 ^ 63 ≤ s + len) → IsExtent near map start stop → ⊥
no_extent near map len start stop null none extent =
    let (long, long_is, stop_is) = extent.null in
    let same : len ≡ long = ap (λ (o : Option ℕ). option_map_or (λ (n : ℕ). n) o 0) (sym null ∙ long_is) in
    let late = none start extent.extension in
    omega (arith, extent.bound, late, same, stop_is)

-- what follows where there is no value
pub where_none : {A P Q : Type 0} (r : Option A) → (P → Q) → IfNone r P → IfNone r Q
where_none None f p = f p
where_none (Some x) f p = tt
