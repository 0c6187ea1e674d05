-- The rows after each call that isn't refused.
use Rattle.std.specs.Prelude.{◌≡◌, ℕ, List, [], ◌∷◌, ◌++◌, map, filter, not, if◌then◌else◌, Bool, false, is_some}
use Rattle.std.specs.Prelude.{unwrap_or, Option, Some, None}
use Rattle.std.specs.Option.{option_and_then, option_map_or}
use Rattle.flow_state.specs.declared.channel.Channel.{Channel}
use Rattle.flow_state.specs.declared.settings.ChannelSettings.{ChannelSettings}
use Rattle.flow_state.specs.declared.flow.Flow.{Flow}
use Rattle.flow_state.specs.declared.flow.FlowKind.{FlowKind}
use Rattle.flow_state.specs.declared.flow.Waiting.{Waiting}
use Rattle.flow_state.specs.Limits.{due_index, IsDueTime}
use Rattle.flow_state.specs.Rows.{Rows, Table, FlowRow, Lease, table_of, change_table, flow_of, change_flow, is_flow}
use Rattle.flow_state.specs.Rows.{lease_of, free_sid, first_of, put_lease, insert_flow, is_ended, has_ended}
use Rattle.flow_state.specs.Rows.{without_request, waits}

-- a channel as it is set: nothing given, its first MAP begins at its base
abbrev pub new_table : Channel → Table
new_table c = record { row = record { channel = c; next_start = c.base; ack = 0 }; leases = []; flows = []; waiting = [] }

abbrev pub with_channel : Rows → Channel → Rows
with_channel rows c = rows ++ new_table c ∷ []

-- the channel with these settings, and all else as it is
abbrev pub with_settings : Channel → ChannelSettings → Channel
with_settings c s = record c { ucd = s.ucd; phy = s.phy; short_max = s.short_max; ranging_backoff = s.ranging_backoff; data_backoff = s.data_backoff }

-- its next start, Ack Time, leases, flows and waiting requests stay
abbrev pub change_in_table : Table → ChannelSettings → Table
change_in_table t s = record t { row = record t.row { channel = with_settings t.row.channel s } }

abbrev pub with_settings_on : Rows → ℕ → ChannelSettings → Rows
with_settings_on rows ch s = change_table rows ch (λ t. change_in_table t s)

-- a flow as it is added under its lease, its first due time next
abbrev pub new_flow : Lease → FlowKind → FlowRow
new_flow l kind = record { sid = l.sid; modem = l.modem; tag = l.tag; first = l.first; last = l.last; kind = kind; index = 0; last_sent = None }

abbrev pub add_to_table : Table → Lease → FlowKind → Table
add_to_table t l kind = record t { leases = put_lease l t.leases; flows = insert_flow (new_flow l kind) t.flows }

-- a new lease of the SID up to a last minislot
abbrev pub new_lease : Table → (modem tag last sid : ℕ) → Lease
new_lease t modem tag last sid = record { sid = sid; modem = modem; tag = tag; first = first_of t sid; last = last }

-- the lease of modem and tag: theirs that isn't over, else a new one of the least SID that is free
abbrev pub lease_among : Option Lease → Table → (modem tag last : ℕ) → Lease
lease_among (Some l) t modem tag last = l
lease_among None t modem tag last = new_lease t modem tag last (unwrap_or (free_sid t) 0)

abbrev pub lease_for : Table → (modem tag last : ℕ) → Lease
lease_for t modem tag last = lease_among (lease_of t modem tag) t modem tag last

-- where they have one that isn't over there is no change, whatever the kind and the last minislot
abbrev pub flow_among : Option Lease → Table → (modem tag last : ℕ) → FlowKind → Table
flow_among (Some l) t modem tag last kind = t
flow_among None t modem tag last kind = add_to_table t (new_lease t modem tag last (unwrap_or (free_sid t) 0)) kind

abbrev pub flow_in_table : Table → (modem tag last : ℕ) → FlowKind → Table
flow_in_table t modem tag last kind = flow_among (lease_of t modem tag) t modem tag last kind

abbrev pub no_lease : Lease
no_lease = record { sid = 0; modem = 0; tag = 0; first = 0; last = 0 }

abbrev pub lease_on : Option Table → (modem tag last : ℕ) → Lease
lease_on (Some t) modem tag last = lease_for t modem tag last
lease_on None modem tag last = no_lease

abbrev pub lease_given : Rows → (ch modem tag last : ℕ) → Lease
lease_given rows ch modem tag last = lease_on (table_of rows ch) modem tag last

-- modem and tag have a lease of a SID of the channel that isn't over
abbrev pub is_known : Rows → (ch modem tag : ℕ) → Bool
is_known rows ch modem tag = option_map_or (λ t. is_some (lease_of t modem tag)) (table_of rows ch) false

abbrev pub with_flow : Rows → (ch modem tag last : ℕ) → FlowKind → Rows
with_flow rows ch modem tag last kind = change_table rows ch (λ t. flow_in_table t modem tag last kind)

-- the flow and its waiting request are gone; the lease of its SID stays
abbrev pub drop_in_table : Table → ℕ → Table
drop_in_table t sid = without_request (record t { flows = filter (λ f. not (is_flow sid f)) t.flows }) sid

abbrev pub without_flow : Rows → ℕ → ℕ → Rows
without_flow rows ch sid = change_table rows ch (λ t. drop_in_table t sid)

-- the request goes last in waiting, and its time is the flow's last accepted one
abbrev pub request_in_table : Table → ℕ → ℕ → ℕ → Table
request_in_table t sid n sent =
    let changed = change_flow t sid (λ f. record f { last_sent = Some sent }) in
    record changed { waiting = t.waiting ++ record { sid = sid; n = n; sent = sent } ∷ [] }

abbrev pub with_request : Rows → ℕ → ℕ → ℕ → ℕ → Rows
with_request rows ch sid n sent = change_table rows ch (λ t. request_in_table t sid n sent)

-- a request of the SID waits on the channel
abbrev pub is_waiting : Rows → ℕ → ℕ → Bool
is_waiting rows ch sid = option_map_or (λ t. waits t sid) (table_of rows ch) false

-- these requests of the channel's wait and no others
abbrev pub waiting_in_table : Table → List Waiting → Table
waiting_in_table t kept = record t { waiting = kept }

abbrev pub with_waiting : Rows → ℕ → List Waiting → Rows
with_waiting rows ch kept = change_table rows ch (λ t. waiting_in_table t kept)

-- the channel's waiting requests, none where there is no such channel
abbrev pub waiting_of : Option Table → List Waiting
waiting_of (Some t) = t.waiting
waiting_of None = []

abbrev pub without_waiting : Rows → ℕ → ℕ → Rows
without_waiting rows ch sid = change_table rows ch (λ t. without_request t sid)

-- the flow that has the SID
abbrev pub flow_row : Rows → ℕ → ℕ → Option FlowRow
flow_row rows ch sid = option_and_then (λ t. flow_of t sid) (table_of rows ch)

-- the flow's next due time is this one
abbrev pub due_in_table : Table → ℕ → ℕ → Table
due_in_table t sid due = change_flow t sid (λ f. record f { index = due_index f.kind due })

abbrev pub with_due : Rows → ℕ → ℕ → ℕ → Rows
with_due rows ch sid due = change_table rows ch (λ t. due_in_table t sid due)

-- the channel's MAPs reach to end, and this is its Ack Time; the flows whose leases end before are gone, with their
-- waiting requests
abbrev pub close_table : Table → (end ack : ℕ) → Table
close_table t end ack = record {
  row = record t.row { next_start = end; ack = ack };
  leases = t.leases;
  flows = filter (λ f. not (is_ended end f)) t.flows;
  waiting = filter (λ w. not (has_ended t end w)) t.waiting;
}

abbrev pub with_cut_closed : Rows → ℕ → ℕ → ℕ → Rows
with_cut_closed rows ch end ack = change_table rows ch (λ t. close_table t end ack)

-- the flow with the next due time that flows of its SID tell, the last of some
abbrev pub told_due : List Flow → FlowRow → FlowRow
told_due [] f = f
told_due (s ∷ ss) f = told_due ss (if is_flow s.lease.sid f then record f { index = due_index f.kind s.due } else f)

abbrev pub told_in_table : Table → List Flow → Table
told_in_table t served = record t { flows = map (told_due served) t.flows }

-- what such a flow tells is one of the due times of the row of its SID
abbrev pub TellsDue : Table → Flow → Type 0
TellsDue t s = (f : FlowRow) → flow_of t s.lease.sid ≡ Some f → IsDueTime f.kind s.due

-- the table after a cut: these are the next due times, these requests wait, and then its MAPs are closed
abbrev pub finish_table : Table → List Flow → List Waiting → (end ack : ℕ) → Table
finish_table t served kept end ack = close_table (record t { flows = map (told_due served) t.flows; waiting = kept }) end ack

abbrev pub with_cut_finished : Rows → ℕ → List Flow → List Waiting → (end ack : ℕ) → Rows
with_cut_finished rows ch served kept end ack = change_table rows ch (λ t. finish_table t served kept end ack)
