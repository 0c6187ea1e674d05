-- Tables as the program can hold them, and as the bytes can tell them: each field and each count fits its type.
use Rattle.std.specs.Prelude.{ℕ, ◌<◌, ◌^◌, length, Option, Some, None}
use Rattle.std.specs.List.{AllByRecursion}
use Rattle.flow_state.specs.declared.channel.ChannelRow.{ChannelRow}
use Rattle.flow_state.specs.declared.flow.Flow.{Flow}
use Rattle.flow_state.specs.declared.flow.Lease.{Lease}
use Rattle.flow_state.specs.declared.flow.Waiting.{Waiting}
use Rattle.flow_state.specs.Rows.{Rows, Table}
use Rattle.flow_state.specs.Firm.{FitsChannel}
use Rattle.grant_machine.specs.Fits.{FitsKind}
use Rattle.row_bytes.specs.Spelling.{Whole, whole_of}

pub record FitsRow (r : ChannelRow) : Type 0 where
  pub channel : FitsChannel r.channel
  pub next_start : r.next_start < 2 ^ 64
  pub ack : r.ack < 2 ^ 64

pub record FitsLease (l : Lease) : Type 0 where
  pub modem : l.modem < 2 ^ 32
  pub tag : l.tag < 2 ^ 32
  pub first : l.first < 2 ^ 64
  pub last : l.last < 2 ^ 64

abbrev pub FitsSent : Option ℕ → Type 0
FitsSent (Some sent) = sent < 2 ^ 64
FitsSent None = Unit {0}

pub record FitsFlow (f : Flow) : Type 0 where
  pub sid : f.lease.sid < 2 ^ 16
  pub kind : FitsKind f.kind
  pub due : f.due < 2 ^ 64
  pub sent : FitsSent f.last_sent

pub record FitsRequest (w : Waiting) : Type 0 where
  pub sid : w.sid < 2 ^ 16
  pub n : w.n < 2 ^ 16
  pub sent : w.sent < 2 ^ 64

pub record FitsWhole (t : Whole) : Type 0 where
  pub row : FitsRow t.row
  pub leases : AllByRecursion FitsLease t.leases
  pub flows : AllByRecursion FitsFlow t.flows
  pub waiting : AllByRecursion FitsRequest t.waiting
  pub leases_count : length t.leases < 2 ^ 16
  pub flows_count : length t.flows < 2 ^ 16
  pub waiting_count : length t.waiting < 2 ^ 8

abbrev pub FitsTable : Table → Type 0
FitsTable t = FitsWhole (whole_of t)

pub record FitsRows (rows : Rows) : Type 0 where
  pub tables : AllByRecursion FitsTable rows
  pub count : length rows < 2 ^ 16
