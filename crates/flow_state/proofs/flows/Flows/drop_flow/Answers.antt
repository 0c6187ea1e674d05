use Rattle.std.proofs.Common.{refl, sym, ap, ◌∙◌}
use Rattle.std.proofs.lemmas.Result.{MatchResult-weaker, on_ok_weaker}
use Rattle.flow_state.specs.Entries.{rows_of}
use Rattle.flow_state.specs.Refusals.{table_drop_refusal}
use Rattle.flow_state.specs.Changes.{drop_in_table}
use Rattle.flow_state.proofs.Tables.{ids_after, refusal_at, rows_at}
use Rattle.flow_state.proofs.flows.Flows.drop_flow.Goals as goal

pub invariant_of-self : goal.invariant_of-self
invariant_of-self c = record {
  ids = ids_after _ _ c.drop_flow.result c.self.inside.tables.entries c.drop_flow.new.tables.entries c.args.ch (λ t. drop_in_table t c.args.sid) c.self.invariant.ids (λ t. refl) c.drop_flow.ensures.ok c.drop_flow.ensures.err;
  unique = c.drop_flow.ensures.unique c.self.invariant.unique;
}

pub returns-clause-ok : goal.returns-clause-ok
returns-clause-ok c = on_ok_weaker c.drop_flow.result (λ p. (sym (refusal_at c.self.inside.tables.entries c.args.self.now c.args.ch c.self.invariant.ids c.self.invariant.unique c.self.view_is (λ t. table_drop_refusal t c.args.sid)) ∙ p.0, ap rows_of p.1 ∙ rows_at c.self.inside.tables.entries c.args.self.now c.args.ch c.self.invariant.ids c.self.invariant.unique c.self.view_is (λ t. drop_in_table t c.args.sid))) c.drop_flow.ensures.ok

pub returns-clause-err : goal.returns-clause-err
returns-clause-err c = MatchResult-weaker c.drop_flow.result c.drop_flow.ensures.err (λ x t. t) (λ e p. (sym (refusal_at c.self.inside.tables.entries c.args.self.now c.args.ch c.self.invariant.ids c.self.invariant.unique c.self.view_is (λ t. table_drop_refusal t c.args.sid)) ∙ p.0, ap rows_of p.1 ∙ c.self.view_is))
