-- What a stored table means.
use Rattle.std.specs.Prelude.{map}
use Rattle.flow_state.specs.declared.flow.Flow.{Flow}
use Rattle.flow_state.specs.declared.table.ChannelTable.TheInside.{Inside}
use Rattle.flow_state.specs.Limits.{due_index}
use Rattle.flow_state.specs.Rows.{Table, FlowRow}

-- a stored flow has its next due time, its row has which one that is
abbrev pub flow_view : Flow → FlowRow
flow_view f = record { sid = f.lease.sid; modem = f.lease.modem; tag = f.lease.tag; first = f.lease.first; last = f.lease.last; kind = f.kind; index = due_index f.kind f.due; last_sent = f.last_sent }

abbrev pub table_view : Inside → Table
table_view a = record { row = a.row; leases = a.leases; flows = map (λ e. flow_view e.1) a.flows.entries; waiting = a.waiting.items }
