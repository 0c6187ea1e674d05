use Rattle.std.proofs.Common.{refl, sym, ap, ◌∙◌}
use Rattle.std.proofs.lemmas.Result.{MatchResult-weaker, on_ok_weaker}
use Rattle.flow_state.specs.Entries.{rows_of}
use Rattle.flow_state.specs.Refusals.{table_change_refusal}
use Rattle.flow_state.specs.Changes.{change_in_table}
use Rattle.flow_state.proofs.Tables.{ids_after, refusal_at, rows_at}
use Rattle.flow_state.proofs.flows.Flows.change_channel.Goals as goal

pub invariant_of-self : goal.invariant_of-self
invariant_of-self c = record {
  ids = ids_after _ _ c.change_channel.result c.self.inside.tables.entries c.change_channel.new.tables.entries c.args.ch (λ t. change_in_table t c.args.settings) c.self.invariant.ids (λ t. refl) c.change_channel.ensures.ok c.change_channel.ensures.err;
  unique = c.change_channel.ensures.unique c.self.invariant.unique;
}

pub returns-clause-ok : goal.returns-clause-ok
returns-clause-ok c = on_ok_weaker c.change_channel.result (λ p. (sym (refusal_at c.self.inside.tables.entries c.args.self.now c.args.ch c.self.invariant.ids c.self.invariant.unique c.self.view_is (λ t. table_change_refusal t c.args.settings)) ∙ p.0, ap rows_of p.1 ∙ rows_at c.self.inside.tables.entries c.args.self.now c.args.ch c.self.invariant.ids c.self.invariant.unique c.self.view_is (λ t. change_in_table t c.args.settings))) c.change_channel.ensures.ok

pub returns-clause-err : goal.returns-clause-err
returns-clause-err c = MatchResult-weaker c.change_channel.result c.change_channel.ensures.err (λ x t. t) (λ e p. (sym (refusal_at c.self.inside.tables.entries c.args.self.now c.args.ch c.self.invariant.ids c.self.invariant.unique c.self.view_is (λ t. table_change_refusal t c.args.settings)) ∙ p.0, ap rows_of p.1 ∙ c.self.view_is))
