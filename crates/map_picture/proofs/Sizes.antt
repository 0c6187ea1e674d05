-- Times and places that are drawn stay below 2^64.
use Rattle.std.proofs.Common.{ℕ, ◌+◌, ◌*◌, ◌-◌, ◌/◌, ◌==◌, ◌||◌, ◌<◌, ◌≤◌, zero, suc, Bool, true, false, if◌then◌else◌}
use Rattle.std.proofs.Common.{arith}
use Rattle.std.proofs.Math.Nat.{div-le_self, div-mul-le_self}
use Rattle.std.proofs.lemmas.Nat.{mul-le}
use Rattle.plan_account.specs.declared.windows.Windows.{Windows}
use Rattle.map_picture.specs.Windows.{begun}

pub div_fits : (n k : ℕ) → n / k ≤ n
div_fits n k = div-le_self n k

-- a multiple of a number is at most what its quotient was taken of
pub times_fits : (k n step : ℕ) → k ≤ n / step → k * step ≤ n
times_fits k n step few =
    let most : k * step ≤ n / step * step = mul-le k step (n / step) step few (omega arith) in
    let whole : n / step * step ≤ n = div-mul-le_self n step in
    omega (arith, most, whole)

-- a window that begins before a time is due before it
passed : (none : Bool) (k left interval : ℕ) → k < (if none then 0 else (left - 1) / interval + 1) → k * interval ≤ left - 1
passed true k left interval few = omega (arith, few)
passed false k left interval few = times_fits k (left - 1) interval (omega (arith, few))

some_left : (left k interval : ℕ) → k < (if (left == 0) || (interval == 0) then 0 else (left - 1) / interval + 1) → 0 < left
some_left zero k interval few = omega (arith, few)
some_left (suc n) k interval few = omega arith

pub due_fits : (w : Windows) (until k : ℕ) → k < begun w until → w.base + k * w.interval < until
due_fits w until k few =
    let left : ℕ = until - w.base - 0 in
    let some : 0 < left = some_left left k w.interval few in
    let most : k * w.interval ≤ left - 1 = passed ((left == 0) || (w.interval == 0)) k left w.interval few in
    omega (arith, some, most)
