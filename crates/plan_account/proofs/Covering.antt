-- Intervals that follow one another have each minislot once.
use Rattle.std.proofs.Common.{◌≡◌, ℕ, ◌+◌, ◌<◌, ◌≤◌, IsTrue, List, [], ◌∷◌, refl, arith}
use Rattle.map_body.specs.declared.interval.Interval.{Interval}
use Rattle.plan_account.specs.Cover.{follow, minislots_of, times_held, CellsCover}

pub together : (is : List Interval) (from to : ℕ) → IsTrue (follow from is to) → from + minislots_of is ≡ to
together [] from to f = grind (arith, f)
together (i ∷ is) from to f =
    let rest = together is i.to to in
    grind (arith, f, rest)

-- none lies before where they begin
none_before : (is : List Interval) (from to x : ℕ) → IsTrue (follow from is to) → x < from → times_held is x ≡ 0
none_before [] from to x f below = refl
none_before (i ∷ is) from to x f below =
    let rest = none_before is i.to to x in
    grind (arith, f, below, rest)

pub once : (is : List Interval) (from to x : ℕ) → IsTrue (follow from is to) → from ≤ x → x < to → times_held is x ≡ 1
once [] from to x f begun ended = grind (arith, f, begun, ended)
once (i ∷ is) from to x f begun ended =
    let rest = once is i.to to x in
    let none = none_before is i.to to x in
    grind (arith, f, begun, ended, rest, none)

pub cells_cover : CellsCover
cells_cover = record { together = together; once = once }
