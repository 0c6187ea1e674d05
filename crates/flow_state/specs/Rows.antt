-- The scheduler's state as plain lists: a table for each channel, in the order in which channels were set.
use Rattle.std.specs.Prelude.{ℕ, Bool, false, ◌&&◌, ◌==◌, not, if◌then◌else◌, List, ◌∷◌, ◌++◌, map, Option, Some, None}
use Rattle.std.specs.Prelude.{slice_get, nat_le, nat_lt}
use Rattle.std.specs.List.{find, filter, list_any, range_with_len}
use Rattle.std.specs.Option.{option_map, option_map_or, option_and_then}
use Rattle.flow_state.specs.declared.channel.ChannelRow.{ChannelRow}
use Rattle.flow_state.specs.declared.flow.FlowKind.{FlowKind}
use Rattle.flow_state.specs.declared.flow.Flow.{Flow}
-- a SID as it is a modem's, under a tag of its own: from the first minislot of the lease to the last one
pub use Rattle.flow_state.specs.declared.flow.Lease.{Lease}
use Rattle.flow_state.specs.declared.flow.Waiting.{Waiting}
use Rattle.flow_state.specs.Limits.{due_time, is_timed, last_sid, last_time}

-- a flow that isn't dropped, with the minislots of its lease: which of its due times is next, and when the last
-- accepted request was sent
pub record FlowRow : Type 0 where
  pub sid : ℕ
  pub modem : ℕ
  pub tag : ℕ
  pub first : ℕ
  pub last : ℕ
  pub kind : FlowKind
  pub index : ℕ
  pub last_sent : Option ℕ

-- a channel: its row, the latest lease of each SID that was given, by SID, its flows by SID, its waiting requests by
-- arrival
pub record Table : Type 0 where
  pub row : ChannelRow
  pub leases : List Lease
  pub flows : List FlowRow
  pub waiting : List Waiting

abbrev pub Rows : Type 0
Rows = List Table

-- the lease under which a flow was added
abbrev pub lease_in : FlowRow → Lease
lease_in f = record { sid = f.sid; modem = f.modem; tag = f.tag; first = f.first; last = f.last }

-- a flow as it is lent: with the next due time in place of its index
abbrev pub lent_flow : FlowRow → Flow
lent_flow f = record { lease = lease_in f; kind = f.kind; due = due_time f.kind f.index; last_sent = f.last_sent }

abbrev pub is_table : ℕ → Table → Bool
is_table ch t = t.row.channel.id == ch

-- the channel's table
abbrev pub table_of : Rows → ℕ → Option Table
table_of rows ch = find (is_table ch) rows

-- the rows with the channel's table changed
abbrev pub change_table : Rows → ℕ → (Table → Table) → Rows
change_table rows ch change = map (λ t. if is_table ch t then change t else t) rows

abbrev pub is_flow : ℕ → FlowRow → Bool
is_flow sid f = f.sid == sid

abbrev pub flow_of : Table → ℕ → Option FlowRow
flow_of t sid = find (is_flow sid) t.flows

-- something comes by itself for the flow, next before a time
abbrev pub is_due : ℕ → FlowRow → Bool
is_due end f = is_timed f.kind && nat_lt (due_time f.kind f.index) end

-- the flows for which it does
abbrev pub due_flows : ℕ → List FlowRow → List FlowRow
due_flows end fs = filter (is_due end) fs

-- the table with the flow changed
abbrev pub change_flow : Table → ℕ → (FlowRow → FlowRow) → Table
change_flow t sid change = record t { flows = map (λ f. if is_flow sid f then change f else f) t.flows }

abbrev pub is_of : ℕ → Waiting → Bool
is_of sid w = w.sid == sid

-- a request of the SID waits
abbrev pub waits : Table → ℕ → Bool
waits t sid = list_any (is_of sid) t.waiting

-- the table without the SID's waiting request
abbrev pub without_request : Table → ℕ → Table
without_request t sid = record t { waiting = filter (λ w. not (is_of sid w)) t.waiting }

-- the lease is over: its last minislot lies before the channel's next MAP
abbrev pub is_over : Table → Lease → Bool
is_over t l = nat_lt l.last t.row.next_start

-- a lease of modem and tag that isn't over
abbrev pub is_lease_of : Table → ℕ → ℕ → Lease → Bool
is_lease_of t modem tag l = (l.modem == modem) && (l.tag == tag) && not (is_over t l)

abbrev pub lease_of : Table → ℕ → ℕ → Option Lease
lease_of t modem tag = find (is_lease_of t modem tag) t.leases

-- a lease of the SID
abbrev pub is_of_sid : ℕ → Lease → Bool
is_of_sid sid l = l.sid == sid

-- the SID was given before, and it is leased by a lease that isn't over
abbrev pub is_given : Table → ℕ → Bool
is_given t sid = list_any (is_of_sid sid) t.leases

abbrev pub is_leased : Table → ℕ → Bool
is_leased t sid = list_any (λ l. is_of_sid sid l && not (is_over t l)) t.leases

-- the SIDs that a modem can be given, in order (CM-SP-MULPIv3.1, Service Identifier)
unfoldable pub unicast_sids : List ℕ
unicast_sids = range_with_len 1 last_sid

-- the least SID that was never given or whose latest lease is over
abbrev pub free_sid : Table → Option ℕ
free_sid t = find (λ sid. not (is_leased t sid)) unicast_sids

-- the first minislot of a new lease of the SID: 0 where it was never given, else that of the channel's next MAP
abbrev pub first_of : Table → ℕ → ℕ
first_of t sid = if is_given t sid then t.row.next_start else 0

-- the lease in its place by SID, over the one that the SID had
abbrev pub put_lease : Lease → List Lease → List Lease
put_lease l ls = filter (λ o. nat_lt o.sid l.sid) ls ++ l ∷ filter (λ o. nat_lt l.sid o.sid) ls

-- the flow in its place by SID
abbrev pub insert_flow : FlowRow → List FlowRow → List FlowRow
insert_flow f fs = filter (λ g. nat_le g.sid f.sid) fs ++ f ∷ filter (λ g. not (nat_le g.sid f.sid)) fs

-- the last minislot of the lease of the flow that has the SID; the last time of all where none has it
abbrev pub last_in : Option FlowRow → ℕ
last_in (Some f) = f.last
last_in None = last_time

abbrev pub last_of : Table → ℕ → ℕ
last_of t sid = last_in (flow_of t sid)

-- a flow whose lease ends before this time, and a request of such a flow
abbrev pub is_ended : ℕ → FlowRow → Bool
is_ended end f = nat_lt f.last end

abbrev pub has_ended : Table → ℕ → Waiting → Bool
has_ended t end w = option_map_or (is_ended end) (flow_of t w.sid) false

-- the rows that are lent, by place
abbrev pub channel_at : Rows → ℕ → Option ChannelRow
channel_at rows ch = option_map (λ t. t.row) (table_of rows ch)

abbrev pub flow_at : Rows → ℕ → ℕ → Option Flow
flow_at rows ch k = option_map lent_flow (option_and_then (λ t. slice_get t.flows k) (table_of rows ch))

abbrev pub waiting_at : Rows → ℕ → ℕ → Option Waiting
waiting_at rows ch k = option_and_then (λ t. slice_get t.waiting k) (table_of rows ch)
