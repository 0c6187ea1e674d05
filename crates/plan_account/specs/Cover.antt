-- Intervals that follow one another.
use Rattle.std.specs.Prelude.{◌≡◌, ℕ, ◌+◌, ◌-◌, ◌<◌, ◌≤◌, ◌==◌, Bool, ◌&&◌, nat_le, nat_lt, if◌then◌else◌, IsTrue, List}
use Rattle.std.specs.Prelude.{[], ◌∷◌}
use Rattle.map_body.specs.declared.interval.Interval.{Interval}

-- the first begins at this offset, each where the one before it ends, and the last ends at that offset
abbrev pub follow : (from : ℕ) → List Interval → (to : ℕ) → Bool
follow from [] to = from == to
follow from (i ∷ is) to = (i.from == from) && (nat_le i.from i.to && follow i.to is to)

-- minislot x lies in the interval
abbrev pub holds : Interval → ℕ → Bool
holds i x = nat_le i.from x && nat_lt x i.to

-- how many minislots they have together
abbrev pub minislots_of : List Interval → ℕ
minislots_of [] = 0
minislots_of (i ∷ is) = (i.to - i.from) + minislots_of is

-- in how many of them minislot x lies
abbrev pub times_held : List Interval → ℕ → ℕ
times_held [] x = 0
times_held (i ∷ is) x = (if holds i x then 1 else 0) + times_held is x

-- where intervals follow one another, they have each minislot once, and as many together as there are
pub record CellsCover : Type 0 where
  pub together : (is : List Interval) (from to : ℕ) → IsTrue (follow from is to) → from + minislots_of is ≡ to
  pub once : (is : List Interval) (from to x : ℕ) → IsTrue (follow from is to) → from ≤ x → x < to → times_held is x ≡ 1
