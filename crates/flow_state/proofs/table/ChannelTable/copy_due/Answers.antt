use Rattle.std.proofs.Common.{length, map, ap, ◌∙◌}
use Rattle.std.specs.Prelude.{OnOk, Result, Ok, Err}
use Rattle.flow_state.specs.Rows.{Table, lent_flow, due_flows}
use Rattle.flow_state.specs.View.{table_view}
use Rattle.flow_state.proofs.Noted.{keys_all, due_rows}
use Rattle.flow_state.proofs.table.ChannelTable.copy_due.Goals as goal

-- what follows of a success
given : {A B : Type 0} (r : Result A B) (P Q : Type 0) → (P → Q) → OnOk r P → OnOk r Q
given (Ok x) P Q then h = then h
given (Err x) P Q then h = h

pub copy_due-requires-clause-rising : goal.copy_due-requires-clause-rising
copy_due-requires-clause-rising c = keys_all c.self.inside.flows.entries (length (table_view c.self.inside).leases) c.self.invariant.flows c.self.invariant.sound.rising c.self.invariant.sound.few

pub returns : goal.returns
returns c =
    given c.copy_due.result _ _
    (λ is. is ∙ due_rows c.args.end c.self.inside.flows.entries c.self.invariant.flows ∙ ap (λ (t : Table). map lent_flow (due_flows c.args.end t.flows)) c.self.view_is)
    c.copy_due.ensures
