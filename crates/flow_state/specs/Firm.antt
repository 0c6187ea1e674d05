-- Tables that commands could leave, and whole tables that are taken from elsewhere.
use Rattle.std.specs.Prelude.{◌≡◌, ◌⊎◌, ℕ, ◌+◌, ◌^◌, ◌<◌, ◌≤◌, true, false, List, [], ◌∷◌, map, length, Some, None}
use Rattle.std.specs.List.{filter, AllByRecursion, range_with_len}
use Rattle.flow_state.specs.declared.channel.Channel.{Channel}
use Rattle.flow_state.specs.declared.flow.FlowKind.{FlowKind}
use Rattle.flow_state.specs.declared.flow.FlowKind.TheVariants.{BestEffort, Ugs, Poll, Station, Initial}
use Rattle.flow_state.specs.declared.flow.Waiting.{Waiting}
use Rattle.flow_state.specs.declared.whole.WholeTable.{WholeTable}
use Rattle.flow_state.specs.declared.whole.NotAdopted.{NotAdopted}
use Rattle.flow_state.specs.declared.whole.NotAdopted.TheVariants.{NotFirm, OutOfMemory}
use Rattle.flow_state.specs.Limits.{last_time, longest_interval, last_sid, most_waiting, is_good_channel, is_good_kind}
use Rattle.flow_state.specs.Limits.{takes_no_requests, due_time}
use Rattle.flow_state.specs.Rows.{Rows, Table, FlowRow, Lease, table_of, is_of, lent_flow}
use Rattle.flow_state.specs.Sound.{IsLeasedFlow}
use Rattle.flow_state.specs.View.{flow_view}

-- ---- a table

-- x is an element of the list
abbrev pub Has : {X : Type 0} → List X → X → Type 0
Has [] x = ⊥
Has (y ∷ ys) x = (y ≡ x) ⊎ Has ys x

-- a flow within the limits; its next due time is at most an interval behind the last time
pub record IsWellFlow (f : FlowRow) : Type 0 where
  pub unicast : 1 ≤ f.sid
  pub last : f.sid ≤ last_sid
  pub kind : is_good_kind f.kind ≡ true
  pub due : due_time f.kind f.index ≤ last_time + longest_interval

-- a lease of a unicast SID that has begun when the channel's next MAP begins
pub record IsWellLease (start : ℕ) (l : Lease) : Type 0 where
  pub unicast : 1 ≤ l.sid
  pub last : l.sid ≤ last_sid
  pub begun : l.first ≤ start
  pub whole : l.first ≤ l.last
  pub ended : l.last ≤ last_time

-- a waiting request within the limits and its lease, and the flow that it is of
pub record IsWellRequest (fs : List FlowRow) (w : Waiting) : Type 0 where
  pub some : 1 ≤ w.n
  pub most : w.n ≤ 255
  pub time : w.sent ≤ last_time
  pub flow : FlowRow
  pub there : Has fs flow
  pub sid : flow.sid ≡ w.sid
  pub last : flow.last_sent ≡ Some w.sent
  pub after : flow.first ≤ w.sent
  pub before : w.sent ≤ flow.last
  pub asks : takes_no_requests flow.kind ≡ false

-- flows in strict order of their SIDs, from this one on
abbrev pub RisingFrom : ℕ → List FlowRow → Type 0
RisingFrom low [] = Unit {0}
RisingFrom low (f ∷ fs) = (low ≤ f.sid) × RisingFrom (f.sid + 1) fs

-- times, sizes and SIDs within their limits, a lease of each SID from 1 on up to the last one that was given, flows by
-- SID under their leases, and one waiting request of a flow at most, its last one
pub record IsWell (t : Table) : Type 0 where
  pub channel : is_good_channel t.row.channel ≡ true
  pub next : t.row.next_start ≤ last_time
  pub ack : t.row.ack ≤ t.row.next_start
  pub order : map (λ l. l.sid) t.leases ≡ range_with_len 1 (length t.leases)
  pub sids : length t.leases ≤ last_sid
  pub flows : (f : FlowRow) → Has t.flows f → IsWellFlow f
  pub rising : RisingFrom 1 t.flows
  pub given : (f : FlowRow) → Has t.flows f → IsLeasedFlow t f
  pub leases : (l : Lease) → Has t.leases l → IsWellLease t.row.next_start l
  pub requests : (w : Waiting) → Has t.waiting w → IsWellRequest t.flows w
  pub alone : (sid : ℕ) → length (filter (is_of sid) t.waiting) ≤ 1
  pub few : length t.waiting ≤ most_waiting

-- each value of a channel fits its field
pub record FitsChannel (c : Channel) : Type 0 where
  pub id : c.id < 2 ^ 8
  pub ucd : c.ucd < 2 ^ 8
  pub short_max : c.short_max < 2 ^ 16
  pub ranging_start : c.ranging_backoff.0 < 2 ^ 8
  pub ranging_end : c.ranging_backoff.1 < 2 ^ 8
  pub data_start : c.data_backoff.0 < 2 ^ 8
  pub data_end : c.data_backoff.1 < 2 ^ 8
  pub base : c.base < 2 ^ 64

-- nothing was ever due for a best-effort flow
abbrev pub idle : FlowKind → ℕ → Type 0
idle (BestEffort priority) i = i ≡ 0
idle (Ugs size interval jitter base) i = Unit {0}
idle (Poll interval jitter base) i = Unit {0}
idle (Station size interval jitter base) i = Unit {0}
idle (Initial size interval jitter base) i = Unit {0}

abbrev pub IsIdle : FlowRow → Type 0
IsIdle f = idle f.kind f.index

-- a table that commands could leave
pub record IsFirm (t : Table) : Type 0 where
  pub well : IsWell t
  pub fits : FitsChannel t.row.channel
  pub idle_flows : AllByRecursion IsIdle t.flows

-- ---- tables of channels

-- each channel has one table
abbrev pub Apart : Rows → Type 0
Apart [] = Unit {0}
Apart (t ∷ rows) = (table_of rows t.row.channel.id ≡ None) × Apart rows

-- tables that commands could leave
abbrev pub AreFirm : Rows → Type 0
AreFirm rows = AllByRecursion IsFirm rows × Apart rows

-- ---- a whole table

-- the table that it is
abbrev pub table_in : WholeTable → Table
table_in w = record { row = w.row; leases = w.leases.items; flows = map flow_view w.flows.items; waiting = w.waiting.items }

-- it is one that commands could leave, each next due time is one of the flow's, and its channel isn't set
pub record IsAdoptable (rows : Rows) (w : WholeTable) : Type 0 where
  pub firm : IsFirm (table_in w)
  pub dues : map lent_flow (table_in w).flows ≡ w.flows.items
  pub new : table_of rows w.row.channel.id ≡ None

-- why a whole table is not taken: want of memory comes only where it could be
abbrev pub Declines : Type 0 → NotAdopted → Type 0
Declines adoptable NotFirm = ¬ adoptable
Declines adoptable OutOfMemory = adoptable
