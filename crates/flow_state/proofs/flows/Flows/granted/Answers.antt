use Rattle.std.proofs.Common.{Option, refl, sym, ap, subst, ◌∙◌, false}
use Rattle.std.specs.Option.{option_map_or}
use Rattle.flow_state.specs.Entries.{AreIds, rows_of}
use Rattle.flow_state.specs.Rows.{Table, waits, without_request}
use Rattle.flow_state.proofs.Tables.{ids_changed, table_at, rows_at}
use Rattle.flow_state.proofs.flows.Flows.granted.Goals as goal

pub invariant_of-self : goal.invariant_of-self
invariant_of-self c = record {
  ids = subst AreIds (sym c.granted.ensures.written) (ids_changed c.self.inside.tables.entries c.args.ch (λ t. without_request t c.args.sid) c.self.invariant.ids (λ t. refl));
  unique = c.granted.ensures.unique c.self.invariant.unique;
}

pub returns-clause-found : goal.returns-clause-found
returns-clause-found c = c.granted.ensures.found ∙ ap (λ (o : Option Table). option_map_or (λ t. waits t c.args.sid) o false) (table_at c.self.inside.tables.entries c.args.self.now c.args.ch c.self.invariant.ids c.self.invariant.unique c.self.view_is)

pub returns-clause-rows : goal.returns-clause-rows
returns-clause-rows c = ap rows_of c.granted.ensures.written ∙ rows_at c.self.inside.tables.entries c.args.self.now c.args.ch c.self.invariant.ids c.self.invariant.unique c.self.view_is (λ t. without_request t c.args.sid)
