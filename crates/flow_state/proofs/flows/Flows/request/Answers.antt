use Rattle.std.proofs.Common.{Option, refl, sym, ap, subst, ◌∙◌}
use Rattle.std.proofs.lemmas.Result.{MatchResult-weaker, on_ok_weaker}
use Rattle.flow_state.specs.declared.refusal.Refusal.{Refusal}
use Rattle.flow_state.specs.Entries.{rows_of}
use Rattle.flow_state.specs.Refusals.{Refuses, table_request_refusal}
use Rattle.flow_state.specs.Changes.{request_in_table}
use Rattle.flow_state.proofs.Tables.{ids_after, refusal_at, rows_at}
use Rattle.flow_state.proofs.flows.Flows.request.Goals as goal

pub invariant_of-self : goal.invariant_of-self
invariant_of-self c = record {
  ids = ids_after _ _ c.request.result c.self.inside.tables.entries c.request.new.tables.entries c.args.ch (λ t. request_in_table t c.args.sid c.args.n c.args.sent) c.self.invariant.ids (λ t. refl) c.request.ensures.ok c.request.ensures.err;
  unique = c.request.ensures.unique c.self.invariant.unique;
}

pub returns-clause-ok : goal.returns-clause-ok
returns-clause-ok c = on_ok_weaker c.request.result (λ p. (sym (refusal_at c.self.inside.tables.entries c.args.self.now c.args.ch c.self.invariant.ids c.self.invariant.unique c.self.view_is (λ t. table_request_refusal t c.args.sid c.args.n c.args.sent)) ∙ p.0, ap rows_of p.1 ∙ rows_at c.self.inside.tables.entries c.args.self.now c.args.ch c.self.invariant.ids c.self.invariant.unique c.self.view_is (λ t. request_in_table t c.args.sid c.args.n c.args.sent))) c.request.ensures.ok

pub returns-clause-err : goal.returns-clause-err
returns-clause-err c = MatchResult-weaker c.request.result c.request.ensures.err (λ x t. t) (λ e p. (subst (λ (o : Option Refusal). Refuses o e) (refusal_at c.self.inside.tables.entries c.args.self.now c.args.ch c.self.invariant.ids c.self.invariant.unique c.self.view_is (λ t. table_request_refusal t c.args.sid c.args.n c.args.sent)) p.0, ap rows_of p.1 ∙ c.self.view_is))
