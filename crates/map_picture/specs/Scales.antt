-- Minislot numbers above a channel, and their ticks on frames and on strips.
use Rattle.std.specs.Prelude.{◌≡◌, ◌≤◌, ◌⊎◌, ℕ, zero, suc, ◌+◌, ◌-◌, ◌*◌, ◌/◌, ◌^◌, ◌&&◌, nat_le, nat_lt, if◌then◌else◌}
use Rattle.std.specs.Prelude.{min, List, [], ◌∷◌, ◌++◌, length, codes, decimal, slice_get, Option, Some, None}
use Rattle.std.specs.Int.{div_ceil}
use Rattle.xml_text.specs.Xml.{Xml, join, said, shape}
use Rattle.xml_text.specs.Xml.Tag.{Line, Words}
use Rattle.xml_text.specs.Xml.Xml.{Nothing}
use Rattle.xml_text.specs.Each.{each}
use Rattle.map_picture.specs.declared.axis.Axis.{Axis}
use Rattle.map_picture.specs.declared.axis.Span.{Span}
use Rattle.map_picture.specs.declared.cells.Strip.{Strip}
use Rattle.map_picture.specs.Axis.{at, is_bare}
use Rattle.map_picture.specs.Cells.{cell_x}

-- ---- which numbers there are

-- a power of ten: ten times more, up to so often, as long as it is at most a fifth of this
abbrev pub ten_after : ℕ → (part : ℕ) → ℕ
ten_after zero part = 1
ten_after (suc k) part = if nat_le (ten_after k part) (part / 5) then 10 * ten_after k part else ten_after k part

-- the first of 1, 2 and 5 times a power of ten that is longer than this
abbrev pub step_in : (part ten : ℕ) → ℕ
step_in part ten = if nat_lt part ten then ten else if nat_lt part (2 * ten) then 2 * ten else 5 * ten

abbrev pub round_step : ℕ → ℕ
round_step part = step_in part (ten_after 18 part)

-- how many numbers a span has at most: long ones take more room
abbrev pub most_numbers : Span → ℕ
most_numbers span = if nat_lt span.to (10 ^ 11) then 10 else 5

-- so steps are longer than this part of it
abbrev pub part_of : Span → ℕ
part_of span = if nat_lt span.to (10 ^ 11) then (span.to - span.from) / 10 else (span.to - span.from) / 5

abbrev pub step_of : Span → ℕ
step_of span = round_step (part_of span)

-- how many steps it is to the first number in the span, and how many numbers there are
abbrev pub steps_before : Span → (step : ℕ) → ℕ
steps_before span step = div_ceil span.from step

abbrev pub number_count : Span → (step : ℕ) → ℕ
number_count span step =
    if nat_lt (span.to / step) (steps_before span step) then 0 else min (span.to / step - steps_before span step) (most_numbers span - 1) + 1

-- so many multiples of the step, one after another
abbrev pub multiples : (before step count : ℕ) → List ℕ
multiples before step zero = []
multiples before step (suc n) = multiples before step n ++ (before + n) * step ∷ []

abbrev pub numbers_by : Span → (step : ℕ) → List ℕ
numbers_by span step = multiples (steps_before span step) step (number_count span step)

-- the numbers of a span
abbrev pub numbers : Span → List ℕ
numbers span = numbers_by span (step_of span)

-- 1, 2 or 5 times a power of ten
abbrev pub IsRound : ℕ → Type 0
IsRound n = (lead k : ℕ) × ((lead ≡ 1) ⊎ ((lead ≡ 2) ⊎ (lead ≡ 5))) × (n ≡ lead * 10 ^ k)

-- there are ten numbers at most, by round steps
pub record NumbersAreRound : Type 0 where
  pub few : (span : Span) → length (numbers span) ≤ 10
  pub round : (span : Span) → IsRound (step_of span)

-- ---- above a channel

abbrev pub number_words : Axis → (y t : ℕ) → Xml
number_words axis y t = said (Words (at axis t) (y + 34) (codes "s m mute")) (decimal t)

-- a tick down to the frames
abbrev pub number_tick : Axis → (y t : ℕ) → Xml
number_tick axis y t = shape (Line (at axis t) (y + 37) (at axis t) (y + 42) (codes "tick"))

abbrev pub number : Axis → (y t : ℕ) → Xml
number axis y t = join (number_words axis y t) (number_tick axis y t)

abbrev pub number_for : Axis → (y : ℕ) → Option ℕ → Xml
number_for axis y (Some t) = number axis y t
number_for axis y None = Nothing

abbrev pub number_at : Axis → (y : ℕ) → List ℕ → ℕ → Xml
number_at axis y ns k = number_for axis y (slice_get ns k)

abbrev pub scale : Axis → (y : ℕ) → List ℕ → Xml
scale axis y ns = each (length ns) (number_at axis y ns)

-- or that there is no MAP
abbrev pub no_map : Axis → (y : ℕ) → Xml
no_map axis y = if is_bare axis.span then said (Words axis.columns.left (y + 34) (codes "s mute")) (codes "no MAP") else Nothing

-- ---- on a strip

-- a tick of a minislot that is in the MAP, or ends it
abbrev pub tick_x : Strip → (t : ℕ) → ℕ
tick_x s t = cell_x s.columns.left s.len (t - s.start)

abbrev pub tick : Strip → (t : ℕ) → Xml
tick s t =
    if nat_le s.start t && nat_le t (s.start + s.len) then shape (Line (tick_x s t) (s.y - 4) (tick_x s t) s.y (codes "tick")) else Nothing

abbrev pub tick_for : Strip → Option ℕ → Xml
tick_for s (Some t) = tick s t
tick_for s None = Nothing

abbrev pub tick_at : Strip → List ℕ → ℕ → Xml
tick_at s ns k = tick_for s (slice_get ns k)

abbrev pub ticks : Strip → List ℕ → Xml
ticks s ns = each (length ns) (tick_at s ns)
