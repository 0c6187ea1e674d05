-- The first refusal of each call that applies, in order.
use Rattle.std.specs.Prelude.{◌≡◌, ℕ, ◌+◌, ◌%◌, ◌==◌, Bool, true, false, not, ◌&&◌, ◌||◌, nat_le, nat_lt, is_some}
use Rattle.std.specs.Prelude.{is_none, if◌then◌else◌, length, Option, Some, None}
use Rattle.std.specs.Option.{option_map_or}
use Rattle.flow_state.specs.declared.channel.Channel.{Channel}
use Rattle.flow_state.specs.declared.channel.Phy.{Phy}
use Rattle.flow_state.specs.declared.channel.Phy.TheVariants.{Tdma, Advanced}
use Rattle.flow_state.specs.declared.settings.ChannelSettings.{ChannelSettings}
use Rattle.flow_state.specs.declared.flow.FlowKind.{FlowKind}
use Rattle.flow_state.specs.declared.refusal.Refusal.{Refusal}
use Rattle.flow_state.specs.declared.refusal.Refusal.TheVariants.{NoChannel, ChannelThere, NoFlow, SidsSpent, Busy}
use Rattle.flow_state.specs.declared.refusal.Refusal.TheVariants.{OldRequest, BadValue, OutOfMemory}
use Rattle.flow_state.specs.Limits.{is_good_channel, are_good_settings, is_good_kind, is_size, takes_no_requests}
use Rattle.flow_state.specs.Limits.{last_time, most_waiting}
use Rattle.flow_state.specs.Rows.{Rows, Table, FlowRow, table_of, flow_of, lease_of, free_sid, waits}

abbrev pub set_channel_refusal : Rows → Channel → Option Refusal
set_channel_refusal rows c =
    if not (is_good_channel c) then Some BadValue
    else if is_some (table_of rows c.id) then Some ChannelThere
    else None

-- two channels have bursts of one kind
abbrev pub is_same_phy : (a b : Phy) → Bool
is_same_phy Tdma Tdma = true
is_same_phy Tdma Advanced = false
is_same_phy Advanced Tdma = false
is_same_phy Advanced Advanced = true

-- the UCD Count that comes after this one (CM-SP-MULPIv3.1, Upstream Channel Descriptor: Configuration Change Count)
abbrev pub next_count : ℕ → ℕ
next_count u = (u + 1) % 256

-- the count of a change is the channel's next one, or the channel's: then the PHY and the size of short grants are too
abbrev pub is_good_count : Channel → ChannelSettings → Bool
is_good_count c s =
    if s.ucd == c.ucd then is_same_phy s.phy c.phy && (s.short_max == c.short_max) else s.ucd == next_count c.ucd

-- the refusal of a change of a channel that is set
abbrev pub table_change_refusal : Table → ChannelSettings → Option Refusal
table_change_refusal t s = if not (are_good_settings s && is_good_count t.row.channel s) then Some BadValue else None

-- a new lease ends no later than any command's time, and not before the channel's next MAP
abbrev pub is_good_last : Table → ℕ → Bool
is_good_last t last = nat_le last last_time && nat_le t.row.next_start last

-- where modem and tag have a lease that isn't over, there is no refusal, whatever the kind and the last minislot
abbrev pub table_flow_refusal : Table → (modem tag last : ℕ) → FlowKind → Option Refusal
table_flow_refusal t modem tag last kind =
    if is_some (lease_of t modem tag) then None
    else if not (is_good_kind kind && is_good_last t last) then Some BadValue
    else if is_none (free_sid t) then Some SidsSpent
    else None

abbrev pub table_drop_refusal : Table → ℕ → Option Refusal
table_drop_refusal t sid = if is_none (flow_of t sid) then Some NoFlow else None

-- a request was sent not later than the last accepted one of its flow, or before the flow's lease
abbrev pub is_repeated : Option ℕ → ℕ → Bool
is_repeated None sent = false
is_repeated (Some last) sent = nat_le sent last

abbrev pub is_old : FlowRow → ℕ → Bool
is_old f sent = nat_lt sent f.first || is_repeated f.last_sent sent

-- the refusal of a request of a flow, where it is busy or isn't
abbrev pub first_refusal : FlowRow → ℕ → ℕ → Bool → Option Refusal
first_refusal f n sent busy =
    if not (is_size n) || not (nat_le sent last_time) || nat_lt f.last sent || takes_no_requests f.kind then Some BadValue
    else if is_old f sent then Some OldRequest
    else if busy then Some Busy
    else None

-- a SID is busy where a request of it waits, or no more may wait
abbrev pub is_busy : Table → ℕ → Bool
is_busy t sid = waits t sid || nat_le most_waiting (length t.waiting)

abbrev pub flow_request_refusal : Table → FlowRow → ℕ → ℕ → Option Refusal
flow_request_refusal t f n sent = first_refusal f n sent (is_busy t f.sid)

abbrev pub request_refusal_on : Option FlowRow → Table → ℕ → ℕ → Option Refusal
request_refusal_on (Some f) t n sent = flow_request_refusal t f n sent
request_refusal_on None t n sent = Some NoFlow

abbrev pub table_request_refusal : Table → ℕ → ℕ → ℕ → Option Refusal
table_request_refusal t sid n sent = request_refusal_on (flow_of t sid) t n sent

-- the refusal of a call on a channel: NoChannel first
abbrev pub on_table : Rows → ℕ → (Table → Option Refusal) → Option Refusal
on_table rows ch refusal = option_map_or refusal (table_of rows ch) (Some NoChannel)

abbrev pub change_channel_refusal : Rows → ℕ → ChannelSettings → Option Refusal
change_channel_refusal rows ch s = on_table rows ch (λ t. table_change_refusal t s)

abbrev pub add_flow_refusal : Rows → (ch modem tag last : ℕ) → FlowKind → Option Refusal
add_flow_refusal rows ch modem tag last kind = on_table rows ch (λ t. table_flow_refusal t modem tag last kind)

abbrev pub drop_flow_refusal : Rows → ℕ → ℕ → Option Refusal
drop_flow_refusal rows ch sid = on_table rows ch (λ t. table_drop_refusal t sid)

abbrev pub request_refusal : Rows → ℕ → ℕ → ℕ → ℕ → Option Refusal
request_refusal rows ch sid n sent = on_table rows ch (λ t. table_request_refusal t sid n sent)

-- a call may refuse so, where this is the first refusal that applies: want of memory comes after every other
abbrev pub Refuses : Option Refusal → Refusal → Type 0
Refuses first OutOfMemory = first ≡ None
Refuses first NoChannel = first ≡ Some NoChannel
Refuses first ChannelThere = first ≡ Some ChannelThere
Refuses first NoFlow = first ≡ Some NoFlow
Refuses first SidsSpent = first ≡ Some SidsSpent
Refuses first Busy = first ≡ Some Busy
Refuses first OldRequest = first ≡ Some OldRequest
Refuses first BadValue = first ≡ Some BadValue

-- the number of a refusal
abbrev pub refusal_number : Refusal → ℕ
refusal_number NoChannel = 1
refusal_number ChannelThere = 2
refusal_number NoFlow = 3
refusal_number SidsSpent = 4
refusal_number Busy = 5
refusal_number OldRequest = 6
refusal_number BadValue = 7
refusal_number OutOfMemory = 8
