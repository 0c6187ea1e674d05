-- The axis of time of a channel.
use Rattle.std.specs.Prelude.{ℕ, ◌+◌, ◌-◌, ◌*◌, ◌/◌, ◌^◌, ◌==◌, ◌&&◌, nat_lt, not, Bool, if◌then◌else◌, min, max, List}
use Rattle.std.specs.Prelude.{[], ◌∷◌}
use Rattle.plan_account.specs.declared.deed.Deed.{Deed}
use Rattle.plan_account.specs.declared.deed.Deed.TheVariants as deeds
use Rattle.map_picture.specs.declared.axis.Axis.{Axis}
use Rattle.map_picture.specs.declared.axis.Columns.{Columns}
use Rattle.map_picture.specs.declared.axis.Span.{Span}

-- ---- the span

-- a span with a MAP of the channel more
abbrev pub with_map : ℕ → Span → Deed → Span
with_map ch span (deeds.Map c start len keep map) = if c == ch then record { from = min span.from start; to = max span.to (start + len) } else span
with_map ch span (deeds.Channel c) = span
with_map ch span (deeds.Flow c sid modem first last kind) = span
with_map ch span (deeds.Drop c sid) = span
with_map ch span (deeds.Request c sid n sent) = span
with_map ch span deeds.Other = span

abbrev pub with_maps : ℕ → Span → List Deed → Span
with_maps ch span [] = span
with_maps ch span (d ∷ ds) = with_maps ch (with_map ch span d) ds

-- that of all MAPs of the channel
abbrev pub span_of : List Deed → ℕ → Span
span_of ds ch = with_maps ch (record { from = 2 ^ 63; to = 0 }) ds

-- that of a channel without a MAP
abbrev pub is_bare : Span → Bool
is_bare span = nat_lt span.to span.from

-- a time before the first MAP begins
abbrev pub is_before : Span → ℕ → Bool
is_before span t = not (is_bare span) && nat_lt t span.from

-- ---- places

-- a part of a span: where the span is long, in units of 2 ^ 20 minislots
abbrev pub coarse : (span part : ℕ) → ℕ
coarse span part = if nat_lt span (2 ^ 50) then part else part / 2 ^ 20

-- where a time is: 768 units for the whole span; times before it and behind it are at its ends
abbrev pub at : Axis → ℕ → ℕ
at axis t =
    axis.columns.left + coarse (axis.span.to - axis.span.from) (min t axis.span.to - axis.span.from) * 768
    / max (coarse (axis.span.to - axis.span.from) (axis.span.to - axis.span.from)) 1

-- how wide a stretch of time is
abbrev pub wide : Axis → (from to : ℕ) → ℕ
wide axis from to = max (at axis to - at axis from) 2

-- where words begin, right of the axis
abbrev pub right : Columns → ℕ
right columns = columns.left + 776
