-- The tables of a scheduler as bytes: channels in their order, numbers most significant byte first, one spelling for a
-- list of tables (this project's format).
use Rattle.std.specs.Prelude.{ℕ, List, [], ◌∷◌, ◌++◌, length, map, Option, Some, None}
use Rattle.std.specs.List.{flat_map}
use Rattle.std.specs.Int.{w16, w32, w64, to_be_bytes}
use Rattle.flow_state.specs.declared.channel.ChannelRow.{ChannelRow}
use Rattle.flow_state.specs.declared.flow.Flow.{Flow}
use Rattle.flow_state.specs.declared.flow.Lease.{Lease}
use Rattle.flow_state.specs.declared.flow.Waiting.{Waiting}
use Rattle.flow_state.specs.Rows.{Rows, Table, lent_flow}
use Rattle.grant_machine.specs.declared.command.Command.TheVariants as commands
use Rattle.command_log.specs.Spelling.{kind_spelling, spelling}

-- numbers of two, four and eight bytes
unfoldable pub number_2 : ℕ → List ℕ
number_2 n = to_be_bytes w16 n

unfoldable pub number_4 : ℕ → List ℕ
number_4 n = to_be_bytes w32 n

unfoldable pub number_8 : ℕ → List ℕ
number_8 n = to_be_bytes w64 n

-- a channel as the command that sets it, where its next MAP begins, and its Ack Time
abbrev pub row_spelling : ChannelRow → List ℕ
row_spelling r = spelling (commands.Channel r.channel) ++ (number_8 r.next_start ++ number_8 r.ack)

-- a lease, whose place tells its SID
abbrev pub lease_spelling : Lease → List ℕ
lease_spelling l = number_4 l.modem ++ (number_4 l.tag ++ (number_8 l.first ++ number_8 l.last))

-- when the last accepted request was sent, if there is one
abbrev pub sent_spelling : Option ℕ → List ℕ
sent_spelling None = 0 ∷ []
sent_spelling (Some sent) = 1 ∷ number_8 sent

-- a flow, whose SID tells its lease
abbrev pub flow_spelling : Flow → List ℕ
flow_spelling f = number_2 f.lease.sid ++ (kind_spelling f.kind ++ (number_8 f.due ++ sent_spelling f.last_sent))

-- a waiting request
abbrev pub request_spelling : Waiting → List ℕ
request_spelling w = number_2 w.sid ++ (number_2 w.n ++ number_8 w.sent)

-- all that is kept of a channel, each flow as it is lent
pub record Whole : Type 0 where
  pub row : ChannelRow
  pub leases : List Lease
  pub flows : List Flow
  pub waiting : List Waiting

-- how many leases, flows and waiting requests a channel has, each count before what it counts
abbrev pub leases_spelling : List Lease → List ℕ
leases_spelling ls = number_2 (length ls) ++ flat_map lease_spelling ls

abbrev pub flows_spelling : List Flow → List ℕ
flows_spelling fs = number_2 (length fs) ++ flat_map flow_spelling fs

abbrev pub requests_spelling : List Waiting → List ℕ
requests_spelling ws = length ws ∷ flat_map request_spelling ws

abbrev pub whole_spelling : Whole → List ℕ
whole_spelling t = row_spelling t.row ++ (leases_spelling t.leases ++ (flows_spelling t.flows ++ requests_spelling t.waiting))

abbrev pub whole_of : Table → Whole
whole_of t = record { row = t.row; leases = t.leases; flows = map lent_flow t.flows; waiting = t.waiting }

abbrev pub table_spelling : Table → List ℕ
table_spelling t = whole_spelling (whole_of t)

-- how many channels there are, and the table of each
abbrev pub rows_spelling : Rows → List ℕ
rows_spelling rows = number_2 (length rows) ++ flat_map table_spelling rows
