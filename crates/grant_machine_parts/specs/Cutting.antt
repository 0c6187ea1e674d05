-- How a MAP is filled: unsolicited grants, polls, intervals of maintenance, then requests (CM-SP-MULPIv3.1, upstream
-- scheduling services, and Ranging; this profile's order).
use Rattle.std.specs.Prelude.{ℕ, zero, suc, ◌+◌, ◌-◌, ◌*◌, ◌/◌, ◌==◌, Bool, false, not, ◌&&◌, ◌||◌, nat_lt, nat_le}
use Rattle.std.specs.Prelude.{if◌then◌else◌, min, max, List, [], ◌∷◌, ◌++◌, Option, Some, None}
use Rattle.std.specs.List.{filter, list_any, flat_map}
use Rattle.minislot_time.specs.Extent.{Extent}
use Rattle.map_body.specs.Iucs as iucs
use Rattle.flow_state.specs.declared.channel.Channel.{Channel}
use Rattle.flow_state.specs.declared.channel.ChannelRow.{ChannelRow}
use Rattle.flow_state.specs.declared.channel.Phy.{Phy}
use Rattle.flow_state.specs.declared.channel.Phy.TheVariants.{Tdma, Advanced}
use Rattle.flow_state.specs.declared.flow.FlowKind.{FlowKind}
use Rattle.flow_state.specs.declared.flow.FlowKind.TheVariants.{BestEffort, Ugs, Poll, Station, Initial}
use Rattle.flow_state.specs.declared.flow.Waiting.{Waiting}
use Rattle.flow_state.specs.declared.refusal.Refusal.{Refusal}
use Rattle.flow_state.specs.declared.refusal.Refusal.TheVariants.{BadValue}
use Rattle.flow_state.specs.Limits.{last_time, most_minislots, is_backoff}
use Rattle.flow_state.specs.Rows.{Table, FlowRow, flow_of, last_of, is_ended, has_ended}
use Rattle.grant_machine_parts.specs.Placing.{Cause, Window, Sent, Placement, free_minislots, first_fit}
-- what a cut asks of its MAP: how many minislots, from when on, with which Ack Time, how many minislots requests leave
-- free, and which back-offs it tells
pub use Rattle.grant_machine_parts.specs.declared.settings.CutSettings.{CutSettings}
-- what comes at each due time of a flow: minislots of this size and use, from the due time to jitter after it, up to
-- the last one of its lease
pub use Rattle.grant_machine_parts.specs.declared.due_times.Periodic.{Periodic}

-- the use of a short grant to a request, and of a long one, on each kind of channel
abbrev pub sized_iuc : Phy → Bool → ℕ
sized_iuc Tdma is_short = if is_short then iucs.short_data_grant else iucs.long_data_grant
sized_iuc Advanced is_short = if is_short then iucs.advanced_short_data_grant else iucs.advanced_long_data_grant

-- the use of a grant to a request: short up to the channel's short_max, else long
abbrev pub grant_iuc : Channel → ℕ → ℕ
grant_iuc c n = sized_iuc c.phy (nat_le n c.short_max)

-- the use of an unsolicited grant: on an Advanced PHY one for every size; and of a poll
abbrev pub unsolicited_on : Phy → Channel → ℕ → ℕ
unsolicited_on Tdma c n = grant_iuc c n
unsolicited_on Advanced c n = iucs.advanced_unsolicited_grant

abbrev pub unsolicited_iuc : Channel → ℕ → ℕ
unsolicited_iuc c n = unsolicited_on c.phy c n

abbrev pub poll_iuc : ℕ
poll_iuc = iucs.request

-- the unsolicited grants of a flow, if it has any
abbrev pub grants_of_kind : Channel → (sid last : ℕ) → FlowKind → Option Periodic
grants_of_kind c sid last (BestEffort priority) = None
grants_of_kind c sid last (Ugs size interval jitter base) = Some (record { sid = sid; iuc = unsolicited_iuc c size; size = size; interval = interval; jitter = jitter; base = base; last = last })
grants_of_kind c sid last (Poll interval jitter base) = None
grants_of_kind c sid last (Station size interval jitter base) = None
grants_of_kind c sid last (Initial size interval jitter base) = None

-- the polls of a flow, if it has any: one minislot each
abbrev pub polls_of_kind : Channel → (sid last : ℕ) → FlowKind → Option Periodic
polls_of_kind c sid last (BestEffort priority) = None
polls_of_kind c sid last (Ugs size interval jitter base) = None
polls_of_kind c sid last (Poll interval jitter base) = Some (record { sid = sid; iuc = poll_iuc; size = 1; interval = interval; jitter = jitter; base = base; last = last })
polls_of_kind c sid last (Station size interval jitter base) = None
polls_of_kind c sid last (Initial size interval jitter base) = None

-- the intervals of station maintenance of a flow, or of initial maintenance, if it has any
abbrev pub maintenance_of_kind : Channel → (sid last : ℕ) → FlowKind → Option Periodic
maintenance_of_kind c sid last (BestEffort priority) = None
maintenance_of_kind c sid last (Ugs size interval jitter base) = None
maintenance_of_kind c sid last (Poll interval jitter base) = None
maintenance_of_kind c sid last (Station size interval jitter base) =
    Some (record { sid = sid; iuc = iucs.station_maintenance; size = size; interval = interval; jitter = jitter; base = base; last = last })
maintenance_of_kind c sid last (Initial size interval jitter base) =
    Some (record { sid = sid; iuc = iucs.initial_maintenance; size = size; interval = interval; jitter = jitter; base = base; last = last })

abbrev pub grants_of_flow : Channel → FlowRow → Option Periodic
grants_of_flow c f = grants_of_kind c f.sid f.last f.kind

abbrev pub polls_of_flow : Channel → FlowRow → Option Periodic
polls_of_flow c f = polls_of_kind c f.sid f.last f.kind

abbrev pub maintenance_of_flow : Channel → FlowRow → Option Periodic
maintenance_of_flow c f = maintenance_of_kind c f.sid f.last f.kind

abbrev pub due_at : Periodic → ℕ → ℕ
due_at p i = p.base + i * p.interval

abbrev pub end_of : Extent → ℕ
end_of span = span.start + span.len

-- what comes of a due time: missed, since its last start lies before the MAP or nothing fits; placed; or kept for the
-- next MAP, since nothing fits and its last start lies behind this one
pub data Verdict : Type 0 where
  Missed : Verdict
  Placed : (offset : ℕ) → Verdict
  Kept : Verdict

abbrev pub unplaced : Extent → ℕ → Verdict
unplaced span last_start = if nat_le (end_of span) last_start then Kept else Missed

abbrev pub verdict_on : Extent → Option ℕ → ℕ → Verdict
verdict_on span (Some x) last_start = Placed x
verdict_on span None last_start = unplaced span last_start

abbrev pub verdict : Extent → List Placement → Periodic → ℕ → Verdict
verdict span ps p i =
    if nat_lt (due_at p i + p.jitter) span.start then Missed
    else verdict_on span (first_fit span ps p.size (max (due_at p i) span.start) (due_at p i + p.jitter) p.last) (due_at p i + p.jitter)

abbrev pub placement_at : Periodic → ℕ → ℕ → Placement
placement_at p i x = record { sid = p.sid; iuc = p.iuc; offset = x; size = p.size; cause = Window i }

-- placements so far, and which due time is next
pub record Ran : Type 0 where
  pub placements : List Placement
  pub index : ℕ

-- k due times from number i on, one after another, until one is kept
abbrev pub run_due_times : Extent → Periodic → ℕ → ℕ → List Placement → Ran
run_due_times span p zero i ps = record { placements = ps; index = i }
run_due_times span p (suc k) i ps =
    elim (verdict span ps p i) [
      | Missed ↦ run_due_times span p k (i + 1) ps
      | Placed x ↦ run_due_times span p k (i + 1) (ps ++ placement_at p i x ∷ [])
      | Kept ↦ record { placements = ps; index = i }
    ]

-- how many due times from number i on lie before the end
abbrev pub due_before : Periodic → ℕ → ℕ → ℕ
due_before p i end = if nat_lt (due_at p i) end then (end - 1 - due_at p i) / p.interval + 1 else 0

abbrev pub run_flow : Extent → Option Periodic → ℕ → List Placement → Ran
run_flow span None i ps = record { placements = ps; index = i }
run_flow span (Some p) i ps = run_due_times span p (due_before p i (end_of span)) i ps

-- flows with their next due times, and placements so far
pub record Passed : Type 0 where
  pub flows : List FlowRow
  pub placements : List Placement

abbrev pub with_first : FlowRow → Passed → Passed
with_first f rest = record { flows = f ∷ rest.flows; placements = rest.placements }

-- the flows in order, those that have what is asked for
abbrev pub pass : Extent → (FlowRow → Option Periodic) → List FlowRow → List Placement → Passed
pass span what [] ps = record { flows = []; placements = ps }
pass span what (f ∷ fs) ps =
    let ran = run_flow span (what f) f.index ps in
    with_first (record f { index = ran.index }) (pass span what fs ran.placements)

-- a request's priority is its flow's; a polled flow's comes first
abbrev pub kind_priority : FlowKind → ℕ
kind_priority (BestEffort priority) = priority
kind_priority (Ugs size interval jitter base) = 0
kind_priority (Poll interval jitter base) = 7
kind_priority (Station size interval jitter base) = 0
kind_priority (Initial size interval jitter base) = 0

abbrev pub flow_priority : Option FlowRow → ℕ
flow_priority (Some f) = kind_priority f.kind
flow_priority None = 0

abbrev pub priority_of : Table → Waiting → ℕ
priority_of t w = flow_priority (flow_of t w.sid)

-- the waiting requests by priority, greater first, and then by arrival
abbrev pub in_order : Table → List Waiting → List Waiting
in_order t ws = flat_map (λ priority. filter (λ w. priority_of t w == priority) ws) (7 ∷ 6 ∷ 5 ∷ 4 ∷ 3 ∷ 2 ∷ 1 ∷ 0 ∷ [])

abbrev pub placement_for : Channel → Waiting → ℕ → Placement
placement_for c w x = record { sid = w.sid; iuc = grant_iuc c w.n; offset = x; size = w.n; cause = Sent w.sent }

-- where a request goes whole: to its first fit, if so many minislots more than it asks for are free
abbrev pub request_fit : Extent → (keep : ℕ) → (ℕ → ℕ) → Waiting → List Placement → Option ℕ
request_fit span keep last w ps =
    if nat_le (w.n + keep) (free_minislots span ps)
    then first_fit span ps w.n span.start (end_of span - w.n) (last w.sid) else None

-- each request where it goes, if anywhere, by the last minislots of the leases of SIDs
abbrev pub place_requests : Extent → Channel → (keep : ℕ) → (ℕ → ℕ) → List Waiting → List Placement → List Placement
place_requests span c keep last [] ps = ps
place_requests span c keep last (w ∷ ws) ps =
    elim (request_fit span keep last w ps) [
      | Some x ↦ place_requests span c keep last ws (ps ++ placement_for c w x ∷ [])
      | None ↦ place_requests span c keep last ws ps
    ]

abbrev pub is_cause_sent : Cause → ℕ → Bool
is_cause_sent (Window index) time = false
is_cause_sent (Sent sent) time = sent == time

-- the placement is the request's grant
abbrev pub is_grant_of : Waiting → Placement → Bool
is_grant_of w p = (p.sid == w.sid) && is_cause_sent p.cause w.sent

-- the requests that were not placed
abbrev pub still_waiting : List Placement → List Waiting → List Waiting
still_waiting ps ws = filter (λ w. not (list_any (is_grant_of w) ps)) ws

-- the back-off (255, 255) of a cut stands for the channel's own
abbrev pub is_own : ℕ × ℕ → Bool
is_own pair = (pair.0 == 255) && (pair.1 == 255)

abbrev pub told_backoff : (own asked : ℕ × ℕ) → ℕ × ℕ
told_backoff own asked = if is_own asked then own else asked

-- the channel as a MAP tells it: with the back-offs of its cut
abbrev pub told_channel : Channel → CutSettings → Channel
told_channel c s = record c { ranging_backoff = told_backoff c.ranging_backoff s.ranging_backoff; data_backoff = told_backoff c.data_backoff s.data_backoff }

-- a filled MAP: its minislots, the Ack Time, the channel as it tells it, the placements, and the flows and requests
-- after it
pub record Filled : Type 0 where
  pub span : Extent
  pub ack : ℕ
  pub told : Channel
  pub placements : List Placement
  pub flows : List FlowRow
  pub waiting : List Waiting

-- a MAP begins where the channel's MAPs reach to, and not before a given time
abbrev pub span_of : ChannelRow → (len not_before : ℕ) → Extent
span_of row len not_before = record { start = max row.next_start not_before; len = len }

-- a cut's back-off is the channel's own, or one
abbrev pub is_cut_backoff : ℕ × ℕ → Bool
is_cut_backoff pair = is_own pair || is_backoff pair.0 pair.1

-- a cut keeps no more minislots than a MAP may have, and its back-offs are good
abbrev pub are_within_limits : CutSettings → Bool
are_within_limits s = nat_le s.keep most_minislots && is_cut_backoff s.ranging_backoff && is_cut_backoff s.data_backoff

-- a MAP has a minislot, and not too many, and its times are at most the last one; what its cut keeps and tells is good
abbrev pub fill_refusal : ChannelRow → CutSettings → Option Refusal
fill_refusal row s =
    if nat_le 1 s.len && nat_le s.len most_minislots && nat_le s.not_before last_time && nat_le s.ack last_time
    && nat_le (end_of (span_of row s.len s.not_before)) last_time && are_within_limits s
    then None else Some BadValue

-- the Ack Time never falls, and never passes the MAP's start
abbrev pub ack_of : ChannelRow → (ack start : ℕ) → ℕ
ack_of row ack start = max row.ack (min ack start)

-- what goes on after the MAP: the flows whose leases don't end before its end, and the requests of these
abbrev pub flows_left : Extent → List FlowRow → List FlowRow
flows_left span fs = filter (λ f. not (is_ended (end_of span) f)) fs

abbrev pub requests_left : Table → Extent → List Waiting → List Waiting
requests_left t span ws = filter (λ w. not (has_ended t (end_of span) w)) ws

abbrev pub fill_requests : Table → Extent → CutSettings → Passed → Filled
fill_requests t span s passed =
    let ps = place_requests span t.row.channel s.keep (last_of t) (in_order t t.waiting) passed.placements in
    record {
      span = span;
      ack = ack_of t.row s.ack span.start;
      told = told_channel t.row.channel s;
      placements = ps;
      flows = flows_left span passed.flows;
      waiting = requests_left t span (still_waiting ps t.waiting);
    }

abbrev pub fill_grants : Table → Extent → Passed
fill_grants t span = pass span (grants_of_flow t.row.channel) t.flows []

abbrev pub fill_polls : Table → Extent → Passed → Passed
fill_polls t span granted = pass span (polls_of_flow t.row.channel) granted.flows granted.placements

abbrev pub fill_maintenance : Table → Extent → Passed → Passed
fill_maintenance t span polled = pass span (maintenance_of_flow t.row.channel) polled.flows polled.placements

-- what comes by itself: unsolicited grants, then polls, then intervals of station and initial maintenance together
abbrev pub fill_windows : Table → Extent → Passed
fill_windows t span = fill_maintenance t span (fill_polls t span (fill_grants t span))

-- the flows of a table with their next due times, those whose leases end with the MAP too
abbrev pub flows_served : Table → Extent → List FlowRow
flows_served t span = (fill_windows t span).flows

abbrev pub fill_span : Table → Extent → CutSettings → Filled
fill_span t span s = fill_requests t span s (fill_windows t span)

abbrev pub fill : Table → CutSettings → Filled
fill t s = fill_span t (span_of t.row s.len s.not_before) s

-- the channel's table after the MAP: the next one begins at its end
abbrev pub table_after : Table → Filled → Table
table_after t f = record { row = record t.row { next_start = end_of f.span; ack = f.ack }; leases = t.leases; flows = f.flows; waiting = f.waiting }
