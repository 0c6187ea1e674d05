use Rattle.std.proofs.Common.{List, subst, ap}
use Rattle.std.specs.Fn.{CalledAt}
use Rattle.std.specs.List.Retain.{IsFiltered}
use Rattle.flow_state.specs.declared.flow.Waiting.{Waiting}
use Rattle.flow_state.specs.Rows.{Table}
use Rattle.flow_state.specs.Changes.{waiting_in_table}
use Rattle.flow_state.proofs.table.ChannelTable.keep_waiting.Goals as goal

pub returns : goal.returns
returns g c = (
  c.retain.new.self.items,
  subst (λ (ws : List Waiting). IsFiltered (CalledAt g.F.FnMut) c.args.keep ws c.retain.new.self.items) (ap (λ (t : Table). t.waiting) c.self.view_is) c.retain.ensures.filtered,
  ap (λ (t : Table). waiting_in_table t c.retain.new.self.items) c.self.view_is,
)
