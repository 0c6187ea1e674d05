-- Reading tables from left to right, up to the first fault.
use Rattle.std.specs.Prelude.{◌≡◌, ℕ, zero, suc, ◌+◌, ◌-◌, ◌<◌, ◌^◌, ◌==◌, Bool, List, [], ◌∷◌, length, take, drop}
use Rattle.std.specs.Prelude.{Option, Some, None, Result, Ok, Err, IsOk, slice_get, Vec, nat_lt, if◌then◌else◌}
use Rattle.std.specs.declared.alloc.Global.{Global}
use Rattle.std.specs.Int.{Width, w16, w32, w64, byte_len, from_be_bytes}
use Rattle.flow_state.specs.declared.channel.Channel.{Channel}
use Rattle.flow_state.specs.declared.channel.ChannelRow.{ChannelRow}
use Rattle.flow_state.specs.declared.channel.Phy.{Phy}
use Rattle.flow_state.specs.declared.channel.Phy.TheVariants.{Tdma, Advanced}
use Rattle.flow_state.specs.declared.flow.Flow.{Flow}
use Rattle.flow_state.specs.declared.flow.FlowKind.{FlowKind}
use Rattle.flow_state.specs.declared.flow.FlowKind.TheVariants.{BestEffort, Ugs, Poll, Station, Initial}
use Rattle.flow_state.specs.declared.flow.Lease.{Lease}
use Rattle.flow_state.specs.declared.flow.Waiting.{Waiting}
use Rattle.flow_state.specs.Limits.{is_good_channel, is_good_kind, is_size}
-- each element is a byte
pub use Rattle.command_log.specs.Reading.{AreBytes}
use Rattle.row_bytes.specs.declared.fault.RowsFault.{RowsFault}
use Rattle.row_bytes.specs.declared.fault.RowsFault.TheVariants.{Short, NoChannel, NoFlow, NoRequest, NotFirm}
use Rattle.row_bytes.specs.declared.fault.RowsFault.TheVariants.{OutOfMemory}
use Rattle.row_bytes.specs.Spelling.{Whole}

-- what was read, or the first fault
abbrev pub Read : Type 0 → Type 0
Read X = Result X RowsFault

infixl 10 ◌>>=◌
abbrev pub ◌>>=◌ : {A B : Type 0} → Read A → (A → Read B) → Read B
(Ok x) >>= f = f x
(Err e) >>= f = Err e

-- a fault is the first one, and want of memory comes only so
abbrev pub FailsReading : {Y : Type 0} → (lack : Type 0) → RowsFault → Read Y → Type 0
FailsReading lack OutOfMemory read = lack
FailsReading lack fault read = read ≡ Err fault

-- an answer is what reading gives
abbrev pub Gives : {X : Type 0} → (lack : Type 0) → Read X → Read X → Type 0
Gives lack (Ok x) read = read ≡ Ok x
Gives lack (Err e) read = FailsReading lack e read

-- the same of a field that is taken off the front of bytes, with the bytes behind it
abbrev pub Takes : {X : Type 0} → (lack : Type 0) → Read X → List ℕ → Read (X × List ℕ) → Type 0
Takes lack (Ok x) behind read = read ≡ Ok (x, behind)
Takes lack (Err e) behind read = FailsReading lack e read

-- the same of items that are read into a vector
abbrev pub TakesItems : {X : Type 0} → (lack : Type 0) → Read (Vec X Global) → List ℕ → Read (List X × List ℕ) → Type 0
TakesItems lack (Ok xs) behind read = read ≡ Ok (xs.items, behind)
TakesItems lack (Err e) behind read = FailsReading lack e read

-- the value, where it is good; else this fault
abbrev pub good : {X : Type 0} → RowsFault → Bool → X → Read X
good fault is x = if is then Ok x else Err fault

-- A field is read as its value and the bytes behind it. A byte
abbrev pub byte_at : List ℕ → Read (ℕ × List ℕ)
byte_at [] = Err Short
byte_at (b ∷ rest) = Ok (b, rest)

-- a number of so many bytes
abbrev pub number_in : Width → List ℕ → Read (ℕ × List ℕ)
number_in w bytes =
    if nat_lt (length bytes) (byte_len w) then Err Short else Ok (from_be_bytes w (take (byte_len w) bytes), drop (byte_len w) bytes)

unfoldable pub number_2_at : List ℕ → Read (ℕ × List ℕ)
number_2_at bytes = number_in w16 bytes

unfoldable pub number_4_at : List ℕ → Read (ℕ × List ℕ)
number_4_at bytes = number_in w32 bytes

unfoldable pub number_8_at : List ℕ → Read (ℕ × List ℕ)
number_8_at bytes = number_in w64 bytes

-- the PHY of a channel's first byte
abbrev pub phy_by : ℕ → Read Phy
phy_by byte = if byte == 1 then Ok Tdma else if byte == 6 then Ok Advanced else Err NoChannel

abbrev pub phy_at : List ℕ → Read (Phy × List ℕ)
phy_at bytes = do
  byte ← byte_at bytes
  phy ← phy_by byte.0
  Ok (phy, byte.1)

-- the start and the end of a back-off
abbrev pub backoff_at : List ℕ → Read ((ℕ × ℕ) × List ℕ)
backoff_at bytes = do
  start ← byte_at bytes
  end ← byte_at start.1
  Ok ((start.0, end.0), end.1)

-- the fields of a channel, up to its back-offs, and all of them
unfoldable pub front_at : List ℕ → Read ((Phy × ℕ × ℕ × ℕ) × List ℕ)
front_at bytes = do
  phy ← phy_at bytes
  id ← byte_at phy.1
  ucd ← byte_at id.1
  short_max ← number_2_at ucd.1
  Ok ((phy.0, id.0, ucd.0, short_max.0), short_max.1)

unfoldable pub channel_at : List ℕ → Read (Channel × List ℕ)
channel_at bytes = do
  front ← front_at bytes
  ranging ← backoff_at front.1
  data_backoff ← backoff_at ranging.1
  base ← number_8_at data_backoff.1
  Ok (record { id = front.0.1; ucd = front.0.2; phy = front.0.0; short_max = front.0.3; ranging_backoff = ranging.0; data_backoff = data_backoff.0; base = base.0 }, base.1)

-- a channel within the limits, with where its next MAP begins and its Ack Time
unfoldable pub row_at : List ℕ → Read (ChannelRow × List ℕ)
row_at bytes = do
  channel ← channel_at bytes
  within ← good NoChannel (is_good_channel channel.0) channel.0
  next ← number_8_at channel.1
  ack ← number_8_at next.1
  Ok (record { channel = within; next_start = next.0; ack = ack.0 }, ack.1)

-- the lease of the SID that is one above a place
unfoldable pub lease_at : ℕ → List ℕ → Read (Lease × List ℕ)
lease_at place bytes = do
  modem ← number_4_at bytes
  tag ← number_4_at modem.1
  first ← number_8_at tag.1
  last ← number_8_at first.1
  Ok (record { sid = place + 1; modem = modem.0; tag = tag.0; first = first.0; last = last.0 }, last.1)

-- the kinds, by their first byte
abbrev pub best_effort_at : List ℕ → Read (FlowKind × List ℕ)
best_effort_at bytes = do
  priority ← byte_at bytes
  Ok (BestEffort priority.0, priority.1)

unfoldable pub timing_at : List ℕ → Read ((ℕ × ℕ × ℕ) × List ℕ)
timing_at bytes = do
  interval ← number_4_at bytes
  jitter ← number_4_at interval.1
  base ← number_8_at jitter.1
  Ok ((interval.0, jitter.0, base.0), base.1)

abbrev pub poll_at : List ℕ → Read (FlowKind × List ℕ)
poll_at bytes = do
  timing ← timing_at bytes
  Ok (Poll timing.0.0 timing.0.1 timing.0.2, timing.1)

abbrev pub sized_at : ((size interval jitter base : ℕ) → FlowKind) → List ℕ → Read (FlowKind × List ℕ)
sized_at kind bytes = do
  size ← number_2_at bytes
  timing ← timing_at size.1
  Ok (kind size.0 timing.0.0 timing.0.1 timing.0.2, timing.1)

abbrev pub fields_by : ℕ → List ℕ → Read (FlowKind × List ℕ)
fields_by byte bytes =
    if byte == 0 then best_effort_at bytes
    else if byte == 1 then sized_at Ugs bytes
    else if byte == 2 then poll_at bytes
    else if byte == 3 then sized_at Station bytes
    else if byte == 4 then sized_at Initial bytes
    else Err NoFlow

-- a kind within the limits
unfoldable pub kind_at : List ℕ → Read (FlowKind × List ℕ)
kind_at bytes = do
  byte ← byte_at bytes
  kind ← fields_by byte.0 byte.1
  within ← good NoFlow (is_good_kind kind.0) kind.0
  Ok (within, kind.1)

-- when the last accepted request was sent, by a first byte
abbrev pub some_sent_at : List ℕ → Read (Option ℕ × List ℕ)
some_sent_at bytes = do
  sent ← number_8_at bytes
  Ok (Some sent.0, sent.1)

abbrev pub sent_by : ℕ → List ℕ → Read (Option ℕ × List ℕ)
sent_by byte bytes = if byte == 0 then Ok (None, bytes) else if byte == 1 then some_sent_at bytes else Err NoFlow

unfoldable pub sent_at : List ℕ → Read (Option ℕ × List ℕ)
sent_at bytes = do
  byte ← byte_at bytes
  sent_by byte.0 byte.1

-- the lease of a SID of the channel, where it has one
abbrev pub lease_of_sid : List Lease → ℕ → Option Lease
lease_of_sid leases sid = if sid == 0 then None else slice_get leases (sid - 1)

abbrev pub lease_found : ℕ → Option Lease → Read Lease
lease_found ch (Some lease) = Ok lease
lease_found ch None = Err (NotFirm ch)

-- a flow of the channel, under the lease of its SID
unfoldable pub flow_at : ℕ → List Lease → List ℕ → Read (Flow × List ℕ)
flow_at ch leases bytes = do
  sid ← number_2_at bytes
  lease ← lease_found ch (lease_of_sid leases sid.0)
  kind ← kind_at sid.1
  due ← number_8_at kind.1
  sent ← sent_at due.1
  Ok (record { lease = lease; kind = kind.0; due = due.0; last_sent = sent.0 }, sent.1)

-- a request of a size within the limits
unfoldable pub request_at : List ℕ → Read (Waiting × List ℕ)
request_at bytes = do
  sid ← number_2_at bytes
  n ← number_2_at sid.1
  within ← good NoRequest (is_size n.0) n.0
  sent ← number_8_at n.1
  Ok (record { sid = sid.0; n = within; sent = sent.0 }, sent.1)

-- so many items, from one at a place on
unfoldable pub items_in : {X : Type 0} → (ℕ → List ℕ → Read (X × List ℕ)) → (place count : ℕ) → List ℕ → Read (List X × List ℕ)
items_in at place zero bytes = Ok ([], bytes)
items_in at place (suc n) bytes = do
  first ← at place bytes
  others ← items_in at (place + 1) n first.1
  Ok (first.0 ∷ others.0, others.1)

-- the leases, flows and requests of a channel, behind how many there are
unfoldable pub leases_at : List ℕ → Read (List Lease × List ℕ)
leases_at bytes = do
  count ← number_2_at bytes
  items_in lease_at 0 count.0 count.1

unfoldable pub flows_at : ℕ → List Lease → List ℕ → Read (List Flow × List ℕ)
flows_at ch leases bytes = do
  count ← number_2_at bytes
  items_in (λ place. flow_at ch leases) 0 count.0 count.1

unfoldable pub requests_at : List ℕ → Read (List Waiting × List ℕ)
requests_at bytes = do
  count ← byte_at bytes
  items_in (λ place. request_at) 0 count.0 count.1

-- all that the bytes of a channel say
unfoldable pub whole_at : List ℕ → Read (Whole × List ℕ)
whole_at bytes = do
  row ← row_at bytes
  leases ← leases_at row.1
  flows ← flows_at row.0.channel.id leases.0 leases.1
  requests ← requests_at flows.1
  Ok (record { row = row.0; leases = leases.0; flows = flows.0; waiting = requests.0 }, requests.1)

-- of so many items there is a first one, without a fault
abbrev pub HasItem : {X : Type 0} → (ℕ → List ℕ → Read (X × List ℕ)) → (place count : ℕ) → List ℕ → Type 0
HasItem at place count bytes = (0 < count) × IsOk (at place bytes)

-- Memory is taken for rows alone, each once it was read. A channel is read without a fault, up to its Ack Time
abbrev pub HasRow : List ℕ → Type 0
HasRow bytes = IsOk (row_at bytes)
