use Rattle.std.proofs.Common.{◌≡◌, Option, Some, None, refl, sym, ap, subst, ◌∙◌, is_some, false}
use Rattle.std.specs.Option.{option_map_or, option_and_then}
use Rattle.flow_state.specs.Entries.{AreIds, rows_of}
use Rattle.flow_state.specs.Rows.{Table, FlowRow, flow_of}
use Rattle.flow_state.specs.Changes.{due_in_table}
use Rattle.flow_state.proofs.Tables.{ids_changed, table_at, rows_at}
use Rattle.flow_state.proofs.flows.Flows.set_due.Goals as goal

is_some_then : (find : Table → Option FlowRow) (o : Option Table) → option_map_or (λ t. is_some (find t)) o false ≡ is_some (option_and_then find o)
is_some_then find (Some t) = refl
is_some_then find None = refl

pub set_due-requires : goal.set_due-requires
set_due-requires c t f e is = c.requires f (ap (λ (o : Option Table). option_and_then (λ t. flow_of t c.args.sid) o) (sym (table_at c.self.inside.tables.entries c.args.self.now c.args.ch c.self.invariant.ids c.self.invariant.unique c.self.view_is) ∙ e) ∙ is)

pub invariant_of-self : goal.invariant_of-self
invariant_of-self c = record {
  ids = subst AreIds (sym c.set_due.ensures.written) (ids_changed c.self.inside.tables.entries c.args.ch (λ t. due_in_table t c.args.sid c.args.due) c.self.invariant.ids (λ t. refl));
  unique = c.set_due.ensures.unique c.self.invariant.unique;
}

pub returns-clause-found : goal.returns-clause-found
returns-clause-found c = c.set_due.ensures.found ∙ is_some_then (λ t. flow_of t c.args.sid) _ ∙ ap (λ (o : Option Table). is_some (option_and_then (λ t. flow_of t c.args.sid) o)) (table_at c.self.inside.tables.entries c.args.self.now c.args.ch c.self.invariant.ids c.self.invariant.unique c.self.view_is)

pub returns-clause-rows : goal.returns-clause-rows
returns-clause-rows c = ap rows_of c.set_due.ensures.written ∙ rows_at c.self.inside.tables.entries c.args.self.now c.args.ch c.self.invariant.ids c.self.invariant.unique c.self.view_is (λ t. due_in_table t c.args.sid c.args.due)
