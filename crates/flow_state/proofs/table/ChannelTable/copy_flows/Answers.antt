use Rattle.std.proofs.Common.{map, ap, ◌∙◌}
use Rattle.std.specs.Prelude.{OnOk, Result, Ok, Err}
use Rattle.flow_state.specs.Rows.{Table, lent_flow}
use Rattle.flow_state.proofs.Filling.{lent_all}
use Rattle.flow_state.proofs.table.ChannelTable.copy_flows.Goals as goal

-- what follows of a success
given : {A B : Type 0} (r : Result A B) (P Q : Type 0) → (P → Q) → OnOk r P → OnOk r Q
given (Ok x) P Q then h = then h
given (Err x) P Q then h = h

pub returns : goal.returns
returns c =
    given c.copy_all.result _ _
    (λ is. is ∙ lent_all c.self.inside.flows.entries c.self.invariant.flows ∙ ap (λ (t : Table). map lent_flow t.flows) c.self.view_is)
    c.copy_all.ensures
