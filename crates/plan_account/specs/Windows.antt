-- The windows of a flow's due times: how many have passed, and how many of these without a grant.
use Rattle.std.specs.Prelude.{ℕ, ◌+◌, ◌-◌, ◌/◌, ◌%◌, ◌==◌, ◌||◌, ◌&&◌, not, nat_lt, Bool, if◌then◌else◌, List, length}
use Rattle.std.specs.Prelude.{Option, Some, None}
use Rattle.std.specs.List.{filter}
use Rattle.flow_state.specs.declared.flow.FlowKind.{FlowKind}
use Rattle.flow_state.specs.declared.flow.FlowKind.TheVariants.{BestEffort, Ugs, Poll, Station, Initial}
use Rattle.plan_account.specs.declared.windows.Windows.{Windows}

-- those of a flow, if something comes by itself to its SID: openings for first ranging are everybody's
abbrev pub windows_of : FlowKind → Option Windows
windows_of (BestEffort priority) = None
windows_of (Ugs size interval jitter base) = Some (record { interval = interval; jitter = jitter; base = base })
windows_of (Poll interval jitter base) = Some (record { interval = interval; jitter = jitter; base = base })
windows_of (Station size interval jitter base) = Some (record { interval = interval; jitter = jitter; base = base })
windows_of (Initial size interval jitter base) = None

-- how many windows end before a time: of each number i for which base + i * interval + jitter lies before it
abbrev pub windows_past : Windows → (end : ℕ) → ℕ
windows_past w end =
    let left = end - w.base - w.jitter in
    if (left == 0) || (w.interval == 0) then 0 else (left - 1) / w.interval + 1

-- the window in which a grant begins ends before a time: its due time is the last one up to the grant's start
abbrev pub is_past : Windows → (end at : ℕ) → Bool
is_past w end at = not (w.interval == 0) && nat_lt w.jitter (end - (at - (at - w.base) % w.interval))

abbrev pub grants_past : Windows → (end : ℕ) → (starts : List ℕ) → ℕ
grants_past w end starts = length (filter (is_past w end) starts)

-- the windows that have passed, less those in which a grant began
abbrev pub windows_missed : Windows → (end : ℕ) → (starts : List ℕ) → ℕ
windows_missed w end starts = windows_past w end - grants_past w end starts

-- the same of a flow, which may have none
abbrev pub count_past : Option Windows → (end : ℕ) → ℕ
count_past None end = 0
count_past (Some w) end = windows_past w end

abbrev pub count_missed : Option Windows → (end : ℕ) → (starts : List ℕ) → ℕ
count_missed None end starts = 0
count_missed (Some w) end starts = windows_missed w end starts
