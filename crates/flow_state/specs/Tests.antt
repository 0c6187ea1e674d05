-- The tests by which a whole table is found to be one that commands could leave, or not.
use Rattle.std.specs.Prelude.{ℕ, ◌+◌, ◌-◌, ◌%◌, ◌==◌, ◌&&◌, not, nat_le, nat_lt, Bool, true, false, List, [], ◌∷◌}
use Rattle.std.specs.Prelude.{length, Option, slice_get}
use Rattle.std.specs.List.{find, list_all, count_by}
use Rattle.std.specs.Option.{option_map_or}
use Rattle.flow_state.specs.declared.channel.ChannelRow.{ChannelRow}
use Rattle.flow_state.specs.declared.flow.Flow.{Flow}
use Rattle.flow_state.specs.declared.flow.FlowKind.{FlowKind}
use Rattle.flow_state.specs.declared.flow.FlowKind.TheVariants.{BestEffort, Ugs, Poll, Station, Initial}
use Rattle.flow_state.specs.declared.flow.Waiting.{Waiting}
use Rattle.flow_state.specs.declared.whole.WholeTable.{WholeTable}
use Rattle.flow_state.specs.Limits.{last_time, longest_interval, last_sid, most_waiting, is_good_channel, is_good_kind}
use Rattle.flow_state.specs.Limits.{is_size, takes_no_requests}
use Rattle.flow_state.specs.Rows.{Lease, is_of}
use Rattle.flow_state.specs.StoredFlows.{place_of}

abbrev pub is_firm_row : ChannelRow → Bool
is_firm_row r = is_good_channel r.channel && nat_le r.next_start last_time && nat_le r.ack r.next_start

-- a lease of a SID, of a channel whose next MAP begins at a start
abbrev pub is_firm_lease : (start : ℕ) → Lease → Bool
is_firm_lease start l = nat_le 1 l.sid && nat_le l.sid last_sid && nat_le l.first start && nat_le l.first l.last && nat_le l.last last_time

-- the leases are of this SID, the next one, and so on
abbrev pub are_in_order : (sid : ℕ) → List Lease → Bool
are_in_order sid [] = true
are_in_order sid (l ∷ ls) = (l.sid == sid) && are_in_order (sid + 1) ls

abbrev pub is_same_lease : Lease → Lease → Bool
is_same_lease l m = (m.sid == l.sid) && (m.modem == l.modem) && (m.tag == l.tag) && (m.first == l.first) && (m.last == l.last)

-- the lease stands one below its SID
abbrev pub stands_there : List Lease → Lease → Bool
stands_there ls l = option_map_or (is_same_lease l) (slice_get ls (place_of l.sid)) false

-- the time lies so many intervals behind the base
abbrev pub is_step : (interval base due : ℕ) → Bool
is_step interval base due = nat_le 1 interval && nat_le base due && ((due - base) % interval == 0)

-- one of the due times of a kind
abbrev pub is_due_time : FlowKind → ℕ → Bool
is_due_time (BestEffort priority) due = due == 0
is_due_time (Ugs size interval jitter base) due = is_step interval base due
is_due_time (Poll interval jitter base) due = is_step interval base due
is_due_time (Station size interval jitter base) due = is_step interval base due
is_due_time (Initial size interval jitter base) due = is_step interval base due

abbrev pub is_firm_flow : (start : ℕ) → List Lease → Flow → Bool
is_firm_flow start ls f =
    is_good_kind f.kind && is_due_time f.kind f.due && nat_le f.due (last_time + longest_interval)
    && nat_le start f.lease.last && stands_there ls f.lease

-- the SIDs of the flows rise from above this one
abbrev pub are_rising : (low : ℕ) → List Flow → Bool
are_rising low [] = true
are_rising low (f ∷ fs) = nat_lt low f.lease.sid && are_rising f.lease.sid fs

abbrev pub is_last : Option ℕ → ℕ → Bool
is_last last sent = option_map_or (λ n. n == sent) last false

-- the request is the flow's last one, and may wait
abbrev pub has_asked : Waiting → Flow → Bool
has_asked w f =
    is_size w.n && nat_le w.sent last_time && is_last f.last_sent w.sent && nat_le f.lease.first w.sent && nat_le w.sent f.lease.last
    && not (takes_no_requests f.kind)

abbrev pub is_firm_request : List Flow → Waiting → Bool
is_firm_request fs w = option_map_or (has_asked w) (find (λ f. f.lease.sid == w.sid) fs) false

-- no other request of its SID is among these
abbrev pub is_alone : List Waiting → Waiting → Bool
is_alone ws w = nat_le (count_by (is_of w.sid) ws) 1

abbrev pub are_firm_leases : (start : ℕ) → List Lease → Bool
are_firm_leases start ls = nat_le (length ls) last_sid && are_in_order 1 ls && list_all (is_firm_lease start) ls

abbrev pub are_firm_flows : (start : ℕ) → List Lease → List Flow → Bool
are_firm_flows start ls fs = are_rising 0 fs && list_all (is_firm_flow start ls) fs

abbrev pub are_firm_requests : List Flow → List Waiting → Bool
are_firm_requests fs ws = nat_le (length ws) most_waiting && list_all (is_alone ws) ws && list_all (is_firm_request fs) ws

abbrev pub is_firm_whole : WholeTable → Bool
is_firm_whole w =
    is_firm_row w.row && are_firm_leases w.row.next_start w.leases.items && are_firm_flows w.row.next_start w.leases.items w.flows.items
    && are_firm_requests w.flows.items w.waiting.items
