-- The windows of a lease, as `stats` counts them: by their numbers, from 0 on.
use Rattle.std.specs.Prelude.{ℕ, ◌+◌, ◌-◌, ◌*◌, ◌/◌, ◌==◌, ◌&&◌, nat_le, nat_lt, not, Bool, true, if◌then◌else◌, max}
use Rattle.std.specs.Prelude.{min, List, [], ◌∷◌, flat_map, codes, Option, Some, None}
use Rattle.std.specs.List.{list_any}
use Rattle.flow_state.specs.declared.flow.FlowKind.{FlowKind}
use Rattle.flow_state.specs.declared.flow.FlowKind.TheVariants.{BestEffort, Ugs, Poll, Station, Initial}
use Rattle.map_body.specs.declared.interval.Interval.{Interval}
use Rattle.map_body.specs.Iucs.{answers_request}
use Rattle.plan_account.specs.declared.deed.Deed.{Deed}
use Rattle.plan_account.specs.declared.deed.Deed.TheVariants as deeds
use Rattle.plan_account.specs.declared.past.LeaseRow.{LeaseRow}
use Rattle.plan_account.specs.declared.windows.Windows.{Windows}
use Rattle.plan_account.specs.Windows.{windows_of, windows_past}
use Rattle.xml_text.specs.Xml.{Xml, shape}
use Rattle.xml_text.specs.Xml.Tag.{Rectangle}
use Rattle.xml_text.specs.Xml.Xml.{Nothing}
use Rattle.xml_text.specs.Each.{each}
use Rattle.map_picture.specs.declared.owners.Owner.{Owner}
use Rattle.map_picture.specs.declared.windows.Dues.{Dues}
use Rattle.map_picture.specs.Axis.{at, wide}
use Rattle.map_picture.specs.Picked.{is_granted}

-- due times of a flow, as they are counted
abbrev pub counted : Dues → Windows
counted d = record { interval = d.interval; jitter = d.jitter; base = d.base }

-- when a window begins
abbrev pub due : Windows → (k : ℕ) → ℕ
due w k = w.base + k * w.interval

-- how many begin before a time: as many as would have passed, if they ended as they begin
abbrev pub begun : Windows → (end : ℕ) → ℕ
begun w end = windows_past (record { interval = w.interval; jitter = 0; base = w.base }) end

-- the number of the first one at the axis or behind it
abbrev pub first_window : (from : ℕ) → Windows → ℕ
first_window from w = (from - w.base) / max w.interval 1

-- how many are drawn, from that one on: those that begin before the flow ends, and no more than 512
abbrev pub window_count : Windows → (until first : ℕ) → ℕ
window_count w until first = min (begun w until - first) 512

-- a grant comes by itself, unless the flow is polled and the grant may answer its request
abbrev pub is_unasked : FlowKind → (iuc : ℕ) → Bool
is_unasked (Poll interval jitter base) iuc = not (answers_request iuc)
is_unasked (Ugs size interval jitter base) iuc = true
is_unasked (Station size interval jitter base) iuc = true
is_unasked (Initial size interval jitter base) iuc = true
is_unasked (BestEffort priority) iuc = true

-- when those of a lease begin that come by themselves: in a MAP that begins then, in a deed, and in all
abbrev pub start_of : LeaseRow → (start : ℕ) → Interval → List ℕ
start_of l start i = if is_granted l start i && is_unasked l.lease.kind i.iuc then (start + i.from) ∷ [] else []

abbrev pub starts_in : (ch : ℕ) → LeaseRow → Deed → List ℕ
starts_in ch l (deeds.Map c start len keep map) = if c == ch then flat_map (start_of l start) map.intervals else []
starts_in ch l (deeds.Channel c) = []
starts_in ch l (deeds.Flow c s modem first last kind) = []
starts_in ch l (deeds.Drop c s) = []
starts_in ch l (deeds.Request c s n sent) = []
starts_in ch l deeds.Other = []

abbrev pub starts : (ch : ℕ) → LeaseRow → List Deed → List ℕ
starts ch l ds = flat_map (starts_in ch l) ds

-- a grant begins at a due time, or behind it and before the next one
abbrev pub begins_in : (due interval : ℕ) → (at : ℕ) → Bool
begins_in due interval at = nat_le due at && nat_lt (at - due) interval

-- a window was missed: it has passed where the flow ends, and no grant begins in it; one that is still open wasn't
abbrev pub is_missed : Windows → (until : ℕ) → (found : List ℕ) → (k : ℕ) → Bool
is_missed w until found k = nat_lt k (windows_past w until) && not (list_any (begins_in (due w k) w.interval) found)

-- red where it was missed
abbrev pub window_class : Bool → List ℕ
window_class missed = if missed then codes "missed" else codes "due"

-- a line below the row
abbrev pub stroke : Owner → (from to : ℕ) → (missed : Bool) → Xml
stroke o from to missed = shape (Rectangle (at o.page.axis from) (o.y + 15) (wide o.page.axis from to) 2 (window_class missed))

-- from the due time to the jitter later, as far as that is before the flow ends
abbrev pub window : Owner → Windows → (found : List ℕ) → (k : ℕ) → Xml
window o w found k = stroke o (due w k) (min (due w k + w.jitter) o.row.until) (is_missed w o.row.until found k)

abbrev pub window_at : Owner → Windows → (found : List ℕ) → (first i : ℕ) → Xml
window_at o w found first i = window o w found (first + i)

abbrev pub windows_from : Owner → Windows → (found : List ℕ) → (first : ℕ) → Xml
windows_from o w found first = each (window_count w o.row.until first) (window_at o w found first)

abbrev pub windows_with : List Deed → Owner → Option Windows → Xml
windows_with ds o (Some w) = windows_from o w (starts o.page.ch o.row ds) (first_window o.page.axis.span.from w)
windows_with ds o None = Nothing

-- those of a lease
abbrev pub windows : List Deed → Owner → Xml
windows ds o = windows_with ds o (windows_of o.row.lease.kind)
