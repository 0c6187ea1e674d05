use Rattle.std.proofs.Common.{List, Option, refl, sym, ap, subst, ◌∙◌, is_some}
use Rattle.std.specs.Fn.{CalledAt}
use Rattle.std.specs.List.Retain.{IsFiltered}
use Rattle.flow_state.specs.declared.flow.Waiting.{Waiting}
use Rattle.flow_state.specs.Entries.{AreIds, rows_of}
use Rattle.flow_state.specs.Rows.{Table}
use Rattle.flow_state.specs.Changes.{finish_table, waiting_of}
use Rattle.flow_state.proofs.Tables.{ids_changed, table_at, rows_at}
use Rattle.flow_state.proofs.flows.Flows.finish_cut.Goals as goal

pub finish_cut-requires-clause-dues : goal.finish_cut-requires-clause-dues
finish_cut-requires-clause-dues g c t e = c.requires.dues t (sym (table_at c.self.inside.tables.entries c.args.self.now c.args.ch c.self.invariant.ids c.self.invariant.unique c.self.view_is) ∙ e)

pub invariant_of-self : goal.invariant_of-self
invariant_of-self g c =
    let kept : List Waiting = c.finish_cut.ensures.written.0 in
    record {
      ids = subst AreIds (sym c.finish_cut.ensures.written.2) (ids_changed c.self.inside.tables.entries c.args.ch (λ t. finish_table t c.args.served.now kept c.args.end c.args.ack) c.self.invariant.ids (λ t. refl));
      unique = c.finish_cut.ensures.unique c.self.invariant.unique;
    }

pub returns-clause-found : goal.returns-clause-found
returns-clause-found g c = c.finish_cut.ensures.found ∙ ap is_some (table_at c.self.inside.tables.entries c.args.self.now c.args.ch c.self.invariant.ids c.self.invariant.unique c.self.view_is)

pub returns-clause-rows : goal.returns-clause-rows
returns-clause-rows g c =
    let kept : List Waiting = c.finish_cut.ensures.written.0 in (
      kept,
      subst (λ (o : Option Table). IsFiltered (CalledAt g.F.FnMut) c.args.keep (waiting_of o) kept) (table_at c.self.inside.tables.entries c.args.self.now c.args.ch c.self.invariant.ids c.self.invariant.unique c.self.view_is) c.finish_cut.ensures.written.1,
      ap rows_of c.finish_cut.ensures.written.2 ∙ rows_at c.self.inside.tables.entries c.args.self.now c.args.ch c.self.invariant.ids c.self.invariant.unique c.self.view_is (λ t. finish_table t c.args.served.now kept c.args.end c.args.ack),
    )
