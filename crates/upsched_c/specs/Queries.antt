-- What calls that ask for a row of a scheduler do.
use Rattle.std.specs.Prelude.{◌≡◌, ℕ, length, Option, Some, None}
use Rattle.std.specs.Option.{option_map}
use Rattle.flow_state.specs.declared.flow.Flow.{Flow}
use Rattle.flow_state.specs.declared.flow.FlowKind.{FlowKind}
use Rattle.flow_state.specs.declared.flow.FlowKind.TheVariants.{BestEffort, Ugs, Poll, Station, Initial}
use Rattle.flow_state.specs.declared.flow.Waiting.{Waiting}
use Rattle.flow_state.specs.Changes.{flow_row}
use Rattle.flow_state.specs.Rows.{Rows, Table, table_of, waiting_at, lent_flow}
use Rattle.upsched_c.specs.declared.handle.Held.{Held}
use Rattle.upsched_c.specs.declared.queries.ChannelFields.{ChannelFields}
use Rattle.upsched_c.specs.declared.queries.WaitingFields.{WaitingFields}
use Rattle.upsched_c.specs.declared.queries.FlowFields.{FlowFields}
use Rattle.upsched_c.specs.declared.status.Status.{Status}
use Rattle.upsched_c.specs.declared.status.Status.TheVariants as statuses
use Rattle.upsched_c.specs.Handles.{Asks}
use Rattle.upsched_c.specs.Machines.{AsMachine}

-- a channel: where its next MAP begins, its Ack Time (CM-SP-MULPIv3.1, MAP: Ack Time), and how many requests wait
abbrev pub channel_fields : Table → ChannelFields
channel_fields t = record { next_start = t.row.next_start; ack = t.row.ack; waiting = length t.waiting }

-- a request that waits
abbrev pub waiting_fields : Waiting → WaitingFields
waiting_fields w = record { sent = w.sent; sid = w.sid; minislots = w.n }

-- the number by which a command names the service
abbrev pub service_number : FlowKind → ℕ
service_number (BestEffort priority) = 0
service_number (Ugs size interval jitter base) = 1
service_number (Poll interval jitter base) = 2
service_number (Station size interval jitter base) = 3
service_number (Initial size interval jitter base) = 4

-- a flow: its next due time, the lease of its SID, its service
abbrev pub flow_fields : Flow → FlowFields
flow_fields f = record {
  due = f.due;
  first = f.lease.first;
  last = f.lease.last;
  modem = f.lease.modem;
  tag = f.lease.tag;
  sid = f.lease.sid;
  service = service_number f.kind;
}

-- the fields of a row are told exactly where there is one; else nothing is written. The scheduler stays as it is
abbrev pub TellsRow : {F : Type 0} → (Rows → Option F) → Rows → F → Rows → F → Status → Type 0
TellsRow row rows old after new statuses.Done = (row rows ≡ Some new) × (after ≡ rows)
TellsRow row rows old after new statuses.Absent = (row rows ≡ None) × (after ≡ rows) × (new ≡ old)
TellsRow row rows old after new _ = ⊥

-- the row of a channel; that of its waiting request number k, by arrival; that of its flow of a SID
abbrev pub TellsChannel : (ch : ℕ) → Rows → ChannelFields → Rows → ChannelFields → Status → Type 0
TellsChannel ch = TellsRow (λ rows. option_map channel_fields (table_of rows ch))

abbrev pub TellsWaiting : (ch k : ℕ) → Rows → WaitingFields → Rows → WaitingFields → Status → Type 0
TellsWaiting ch k = TellsRow (λ rows. option_map waiting_fields (waiting_at rows ch k))

abbrev pub TellsFlow : (ch sid : ℕ) → Rows → FlowFields → Rows → FlowFields → Status → Type 0
TellsFlow ch sid = TellsRow (λ rows. option_map flow_fields (option_map lent_flow (flow_row rows ch sid)))

-- a handle is asked for a row of the scheduler that it holds
abbrev pub AsksForRow : {F : Type 0} → (Rows → F → Rows → F → Status → Type 0) → Option Held → F → Option Held → F → Status → Type 0
AsksForRow Tells old out new out' status = Asks (AsMachine Tells) old out new out' status
