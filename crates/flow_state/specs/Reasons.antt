-- Why a call is refused: the first limit that refuses, in the order of the limits.
use Rattle.std.specs.Prelude.{ℕ, ◌==◌, Bool, not, ◌&&◌, nat_le, nat_lt, is_some, is_none, if◌then◌else◌, length, Option}
use Rattle.std.specs.Prelude.{Some, None}
use Rattle.std.specs.Option.{option_or, option_map_or}
use Rattle.flow_state.specs.declared.limits.TheConstants.{LARGEST_SIZE, LAST_BACKOFF, HIGHEST_PRIORITY}
use Rattle.flow_state.specs.declared.channel.Channel.{Channel}
use Rattle.flow_state.specs.declared.settings.ChannelSettings.{ChannelSettings}
use Rattle.flow_state.specs.declared.flow.FlowKind.{FlowKind}
use Rattle.flow_state.specs.declared.flow.FlowKind.TheVariants.{BestEffort, Ugs, Poll, Station, Initial}
use Rattle.flow_state.specs.declared.refusal.Refusal.{Refusal}
use Rattle.flow_state.specs.declared.refusal.Refusal.TheVariants as refusals
use Rattle.flow_state.specs.declared.reason.Field.{Field}
use Rattle.flow_state.specs.declared.reason.Field.TheVariants as fields
use Rattle.flow_state.specs.declared.reason.Reason.{Reason}
use Rattle.flow_state.specs.declared.reason.Reason.TheVariants.{NoChannel, ChannelThere, NoFlow, SidsSpent, Waits, Full}
use Rattle.flow_state.specs.declared.reason.Reason.TheVariants.{BeforeLease, Repeated, Outside, JitterTooLong}
use Rattle.flow_state.specs.declared.reason.Reason.TheVariants.{BackoffTurned, LastTooEarly, BehindLease}
use Rattle.flow_state.specs.declared.reason.Reason.TheVariants.{TakesNoRequests, WrongCount, OtherPhy, OtherShortMax}
use Rattle.flow_state.specs.Limits.{last_time, longest_interval, most_waiting, takes_no_requests}
use Rattle.flow_state.specs.Refusals.{is_same_phy, next_count}
use Rattle.flow_state.specs.Rows.{Rows, Table, FlowRow, table_of, flow_of, lease_of, free_sid, waits}

-- the refusal that a reason is one of
abbrev pub reason_refusal : Reason → Refusal
reason_refusal (NoChannel ch) = refusals.NoChannel
reason_refusal (ChannelThere ch) = refusals.ChannelThere
reason_refusal (NoFlow ch sid) = refusals.NoFlow
reason_refusal (SidsSpent ch) = refusals.SidsSpent
reason_refusal (Waits sid) = refusals.Busy
reason_refusal (Full ch) = refusals.Busy
reason_refusal (BeforeLease sent first) = refusals.OldRequest
reason_refusal (Repeated sent last) = refusals.OldRequest
reason_refusal (Outside field value least most) = refusals.BadValue
reason_refusal (JitterTooLong jitter interval) = refusals.BadValue
reason_refusal (BackoffTurned field start end) = refusals.BadValue
reason_refusal (LastTooEarly last next_start) = refusals.BadValue
reason_refusal (BehindLease sent last) = refusals.BadValue
reason_refusal (TakesNoRequests sid) = refusals.BadValue
reason_refusal (WrongCount ucd own) = refusals.BadValue
reason_refusal OtherPhy = refusals.BadValue
reason_refusal (OtherShortMax short_max own) = refusals.BadValue

-- a reason where a test holds
abbrev pub if_so : Bool → Reason → Option Reason
if_so test reason = if test then Some reason else None

-- a value isn't within its limits
abbrev pub outside : Field → (value least most : ℕ) → Option Reason
outside field value least most = if_so (not (nat_le least value && nat_le value most)) (Outside field value least most)

-- the first reason of two, and of three
abbrev pub either : Option Reason → Option Reason → Option Reason
either a b = option_or a b

abbrev pub first_of : (a b c : Option Reason) → Option Reason
first_of a b c = option_or (option_or a b) c

-- a back-off's start comes after its end, or its end isn't within its limits
abbrev pub why_backoff : Field → (start end : ℕ) → Option Reason
why_backoff field start end = either (if_so (not (nat_le start end)) (BackoffTurned field start end)) (outside field end 0 LAST_BACKOFF)

-- the back-offs and the size of short grants
abbrev pub why_values : (ranging sending : ℕ × ℕ) → (short_max : ℕ) → Option Reason
why_values ranging sending short_max =
    first_of (why_backoff fields.Ranging ranging.0 ranging.1) (why_backoff fields.Data sending.0 sending.1)
    (if_so (not (nat_lt 0 short_max)) (Outside fields.ShortMax short_max 1 65535))

abbrev pub why_bad_channel : Channel → Option Reason
why_bad_channel c = either (why_values c.ranging_backoff c.data_backoff c.short_max) (outside fields.Base c.base 0 last_time)

abbrev pub why_schedule : (interval jitter base : ℕ) → Option Reason
why_schedule interval jitter base =
    first_of (outside fields.Interval interval 1 longest_interval) (if_so (not (nat_lt jitter interval)) (JitterTooLong jitter interval))
    (outside fields.Base base 0 last_time)

abbrev pub why_sized : (size interval jitter base : ℕ) → Option Reason
why_sized size interval jitter base = either (outside fields.Size size 1 LARGEST_SIZE) (why_schedule interval jitter base)

abbrev pub why_kind : FlowKind → Option Reason
why_kind (BestEffort priority) = outside fields.Priority priority 0 HIGHEST_PRIORITY
why_kind (Ugs size interval jitter base) = why_sized size interval jitter base
why_kind (Poll interval jitter base) = why_schedule interval jitter base
why_kind (Station size interval jitter base) = why_sized size interval jitter base
why_kind (Initial size interval jitter base) = why_sized size interval jitter base

-- ---- the calls on a table

-- under the channel's own count another PHY or size of short grants, else a count that isn't the next one
abbrev pub why_count : Channel → ChannelSettings → Option Reason
why_count c s =
    if s.ucd == c.ucd then either (if_so (not (is_same_phy s.phy c.phy)) OtherPhy) (if_so (not (s.short_max == c.short_max)) (OtherShortMax s.short_max c.short_max))
    else if_so (not (s.ucd == next_count c.ucd)) (WrongCount s.ucd c.ucd)

abbrev pub why_settings : Channel → ChannelSettings → Option Reason
why_settings c s = either (why_values s.ranging_backoff s.data_backoff s.short_max) (why_count c s)

abbrev pub why_change : Table → ChannelSettings → Option Reason
why_change t s = why_settings t.row.channel s

-- a lease ends no later than any command's time, and not before the channel's next MAP
abbrev pub why_last : (next_start last : ℕ) → Option Reason
why_last next_start last = either (outside fields.Last last 0 last_time) (if_so (not (nat_le next_start last)) (LastTooEarly last next_start))

abbrev pub why_flow : Table → (modem tag last : ℕ) → FlowKind → Option Reason
why_flow t modem tag last kind =
    if is_some (lease_of t modem tag) then None
    else first_of (why_kind kind) (why_last t.row.next_start last) (if_so (is_none (free_sid t)) (SidsSpent t.row.channel.id))

abbrev pub why_drop : Table → ℕ → Option Reason
why_drop t sid = if_so (is_none (flow_of t sid)) (NoFlow t.row.channel.id sid)

-- values that no request of the flow may have, and a flow that takes none
abbrev pub why_bad_request : FlowRow → (n sent : ℕ) → Option Reason
why_bad_request f n sent =
    first_of (outside fields.Minislots n 1 LARGEST_SIZE) (outside fields.Sent sent 0 last_time)
    (either (if_so (nat_lt f.last sent) (BehindLease sent f.last)) (if_so (takes_no_requests f.kind) (TakesNoRequests f.sid)))

abbrev pub why_repeated : Option ℕ → ℕ → Option Reason
why_repeated None sent = None
why_repeated (Some last) sent = if_so (nat_le sent last) (Repeated sent last)

abbrev pub why_old : FlowRow → (sent : ℕ) → Option Reason
why_old f sent = either (if_so (nat_lt sent f.first) (BeforeLease sent f.first)) (why_repeated f.last_sent sent)

abbrev pub why_not_asked : FlowRow → (n sent : ℕ) → Option Reason
why_not_asked f n sent = either (why_bad_request f n sent) (why_old f sent)

abbrev pub why_busy : Table → (sid : ℕ) → Option Reason
why_busy t sid = either (if_so (waits t sid) (Waits sid)) (if_so (nat_le most_waiting (length t.waiting)) (Full t.row.channel.id))

abbrev pub why_request_on : Option FlowRow → Table → (sid n sent : ℕ) → Option Reason
why_request_on None t sid n sent = Some (NoFlow t.row.channel.id sid)
why_request_on (Some f) t sid n sent = either (why_not_asked f n sent) (why_busy t f.sid)

abbrev pub why_request : Table → (sid n sent : ℕ) → Option Reason
why_request t sid n sent = why_request_on (flow_of t sid) t sid n sent

-- ---- the calls

abbrev pub why_set_channel : Rows → Channel → Option Reason
why_set_channel rows c = either (why_bad_channel c) (if_so (is_some (table_of rows c.id)) (ChannelThere c.id))

-- of a call on a channel: that it isn't set comes first
abbrev pub why_on : Rows → ℕ → (Table → Option Reason) → Option Reason
why_on rows ch why = option_map_or why (table_of rows ch) (Some (NoChannel ch))
