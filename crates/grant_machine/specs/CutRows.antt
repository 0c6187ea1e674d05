-- What a cut reads of the rows and writes back.
use Rattle.std.specs.Prelude.{◌≡◌, ℕ, Bool, false, List, map, Some}
use Rattle.std.specs.List.{AllByRecursion, filter}
use Rattle.std.specs.Option.{option_map_or}
use Rattle.flow_state.specs.declared.channel.Channel.{Channel}
use Rattle.flow_state.specs.declared.flow.Flow.{Flow}
use Rattle.flow_state.specs.declared.flow.Waiting.{Waiting}
use Rattle.flow_state.specs.Rows.{Rows, Table, FlowRow, table_of, flow_of, is_due, last_of}
use Rattle.flow_state.specs.Changes.{waiting_of, with_cut_finished}
use Rattle.flow_state.specs.View.{flow_view}
use Rattle.grant_machine_parts.specs.Cutting.{priority_of, in_order, still_waiting}
use Rattle.grant_machine_parts.specs.declared.waiting.Ranked.{Ranked}
use Rattle.grant_machine_parts.specs.Ranks.{requests_in, IsOfLast}
use Rattle.grant_machine_parts.specs.declared.placing.Placement.{Placement}
use Rattle.grant_machine.specs.Runs.{IsReached}

-- the flow of the SID was due before a MAP's end, and those of some flows that were
abbrev pub was_due : Table → (end : ℕ) → FlowRow → Bool
was_due t end f = option_map_or (is_due end) (flow_of t f.sid) false

abbrev pub due_ones : Table → (end : ℕ) → List FlowRow → List FlowRow
due_ones t end fs = filter (was_due t end) fs

-- a request with the priority of its flow and the last minislot of the flow's lease
abbrev pub rank_in : Table → Waiting → Ranked
rank_in t w = record { priority = priority_of t w; last = last_of t w.sid; request = w }

-- the rows after a cut: the flows' next due times are set, the requests that are granted are taken out, and then the
-- MAP is closed
abbrev pub rows_closed : Rows → ℕ → List Flow → List Placement → (end ack : ℕ) → Rows
rows_closed rows ch served ps end ack = with_cut_finished rows ch served (still_waiting ps (waiting_of (table_of rows ch))) end ack

-- the table is a channel's that some commands leave
pub record IsReachedTable (t : Table) : Type 0 where
  pub rows : Rows
  pub channel : ℕ
  pub reached : IsReached rows
  pub found : table_of rows channel ≡ Some t

-- the channel, its flows that are due before an end, as they are lent, and its requests by priority are the table's
pub record IsOfTable (t : Table) (end : ℕ) (c : Channel) (flows : List Flow) (ranked : List Ranked) : Type 0 where
  pub reached : IsReachedTable t
  pub channel : t.row.channel ≡ c
  pub flows_are : map flow_view flows ≡ due_ones t end t.flows
  pub requests_are : requests_in ranked ≡ in_order t t.waiting
  pub lasts_are : AllByRecursion (IsOfLast (last_of t)) ranked
