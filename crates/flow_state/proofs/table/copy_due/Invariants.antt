use Rattle.std.proofs.Common.{◌≡◌, ◌-◌, filter}
use Rattle.flow_state.specs.StoredTable.{is_due_stored}
use Rattle.flow_state.proofs.Noted.{below, values}
use Rattle.flow_state.proofs.table.copy_due.Given as goal

abbrev pub invariant-loop-sid : goal.invariant-loop-sid
invariant-loop-sid l = l.copied.items ≡ filter (is_due_stored l.end) (values (below l.from l.flows.entries))

abbrev pub decreases-loop-sid : goal.decreases-loop-sid
decreases-loop-sid l = 8192 - l.from
