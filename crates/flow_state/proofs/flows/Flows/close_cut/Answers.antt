use Rattle.std.proofs.Common.{refl, sym, ap, subst, ◌∙◌, is_some}
use Rattle.flow_state.specs.Entries.{AreIds, rows_of}
use Rattle.flow_state.specs.Changes.{close_table}
use Rattle.flow_state.proofs.Tables.{ids_changed, table_at, rows_at}
use Rattle.flow_state.proofs.flows.Flows.close_cut.Goals as goal

pub invariant_of-self : goal.invariant_of-self
invariant_of-self c = record {
  ids = subst AreIds (sym c.close_cut.ensures.written) (ids_changed c.self.inside.tables.entries c.args.ch (λ t. close_table t c.args.end c.args.ack) c.self.invariant.ids (λ t. refl));
  unique = c.close_cut.ensures.unique c.self.invariant.unique;
}

pub returns-clause-found : goal.returns-clause-found
returns-clause-found c = c.close_cut.ensures.found ∙ ap is_some (table_at c.self.inside.tables.entries c.args.self.now c.args.ch c.self.invariant.ids c.self.invariant.unique c.self.view_is)

pub returns-clause-rows : goal.returns-clause-rows
returns-clause-rows c = ap rows_of c.close_cut.ensures.written ∙ rows_at c.self.inside.tables.entries c.args.self.now c.args.ch c.self.invariant.ids c.self.invariant.unique c.self.view_is (λ t. close_table t c.args.end c.args.ack)
