use Rattle.std.proofs.Common.{List, Option, refl, sym, ap, subst, ◌∙◌}
use Rattle.std.specs.Fn.{CalledAt}
use Rattle.std.specs.List.Retain.{IsFiltered}
use Rattle.flow_state.specs.declared.flow.Waiting.{Waiting}
use Rattle.flow_state.specs.Entries.{AreIds, rows_of}
use Rattle.flow_state.specs.Rows.{Table}
use Rattle.flow_state.specs.Changes.{waiting_in_table, waiting_of}
use Rattle.flow_state.proofs.Tables.{ids_changed, table_at, rows_at}
use Rattle.flow_state.proofs.flows.Flows.keep_waiting.Goals as goal

pub invariant_of-self : goal.invariant_of-self
invariant_of-self g c =
    let kept : List Waiting = c.keep_waiting.ensures.written.0 in
    record {
      ids = subst AreIds (sym c.keep_waiting.ensures.written.2) (ids_changed c.self.inside.tables.entries c.args.ch (λ t. waiting_in_table t kept) c.self.invariant.ids (λ t. refl));
      unique = c.keep_waiting.ensures.unique c.self.invariant.unique;
    }

pub returns : goal.returns
returns g c =
    let kept : List Waiting = c.keep_waiting.ensures.written.0 in (
      kept,
      subst (λ (o : Option Table). IsFiltered (CalledAt g.F.FnMut) c.args.keep (waiting_of o) kept) (table_at c.self.inside.tables.entries c.args.self.now c.args.ch c.self.invariant.ids c.self.invariant.unique c.self.view_is) c.keep_waiting.ensures.written.1,
      ap rows_of c.keep_waiting.ensures.written.2 ∙ rows_at c.self.inside.tables.entries c.args.self.now c.args.ch c.self.invariant.ids c.self.invariant.unique c.self.view_is (λ t. waiting_in_table t kept),
    )
