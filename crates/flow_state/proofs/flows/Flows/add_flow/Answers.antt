use Rattle.std.proofs.Common.{◌≡◌, ℕ, Option, Some, None, refl, sym, ap, subst, ◌∙◌, is_some, false}
use Rattle.std.specs.Option.{option_map_or}
use Rattle.std.proofs.lemmas.Result.{MatchResult-weaker, on_ok_weaker, IfOk-weaker}
use Rattle.flow_state.specs.declared.flow.FlowKind.{FlowKind}
use Rattle.flow_state.specs.declared.refusal.Refusal.{Refusal}
use Rattle.flow_state.specs.Entries.{rows_of}
use Rattle.flow_state.specs.Rows.{Table, Lease, lease_of}
use Rattle.flow_state.specs.Refusals.{Refuses, table_flow_refusal}
use Rattle.flow_state.specs.Changes.{lease_on, flow_among, flow_in_table}
use Rattle.flow_state.proofs.Tables.{ids_after, table_at, refusal_at, rows_at}
use Rattle.flow_state.proofs.flows.Flows.add_flow.Goals as goal

keeps : (t : Table) (o : Option Lease) (modem tag last : ℕ) (kind : FlowKind) → (flow_among o t modem tag last kind).row.channel.id ≡ t.row.channel.id
keeps t (Some l) modem tag last kind = refl
keeps t None modem tag last kind = refl

pub invariant_of-self : goal.invariant_of-self
invariant_of-self c = record {
  ids = ids_after _ _ c.add_flow.result c.self.inside.tables.entries c.add_flow.new.tables.entries c.args.ch (λ t. flow_in_table t c.args.modem c.args.tag c.args.last c.args.kind) c.self.invariant.ids (λ t. keeps t (lease_of t c.args.modem c.args.tag) c.args.modem c.args.tag c.args.last c.args.kind) c.add_flow.ensures.ok c.add_flow.ensures.err;
  unique = c.add_flow.ensures.unique c.self.invariant.unique;
}

pub returns-clause-ok : goal.returns-clause-ok
returns-clause-ok c = on_ok_weaker c.add_flow.result (λ p. (sym (refusal_at c.self.inside.tables.entries c.args.self.now c.args.ch c.self.invariant.ids c.self.invariant.unique c.self.view_is (λ t. table_flow_refusal t c.args.modem c.args.tag c.args.last c.args.kind)) ∙ p.0, ap rows_of p.1 ∙ rows_at c.self.inside.tables.entries c.args.self.now c.args.ch c.self.invariant.ids c.self.invariant.unique c.self.view_is (λ t. flow_in_table t c.args.modem c.args.tag c.args.last c.args.kind))) c.add_flow.ensures.ok

pub returns-clause-err : goal.returns-clause-err
returns-clause-err c = MatchResult-weaker c.add_flow.result c.add_flow.ensures.err (λ x t. t) (λ e p. (subst (λ (o : Option Refusal). Refuses o e) (refusal_at c.self.inside.tables.entries c.args.self.now c.args.ch c.self.invariant.ids c.self.invariant.unique c.self.view_is (λ t. table_flow_refusal t c.args.modem c.args.tag c.args.last c.args.kind)) p.0, ap rows_of p.1 ∙ c.self.view_is))

pub returns-clause-lease : goal.returns-clause-lease
returns-clause-lease c = IfOk-weaker c.add_flow.result _ _ (λ lease e. e ∙ ap (λ (o : Option Table). lease_on o c.args.modem c.args.tag c.args.last) (table_at c.self.inside.tables.entries c.args.self.now c.args.ch c.self.invariant.ids c.self.invariant.unique c.self.view_is)) c.add_flow.ensures.lease

pub returns-clause-known : goal.returns-clause-known
returns-clause-known c known = c.add_flow.ensures.known (ap (λ (o : Option Table). option_map_or (λ t. is_some (lease_of t c.args.modem c.args.tag)) o false) (table_at c.self.inside.tables.entries c.args.self.now c.args.ch c.self.invariant.ids c.self.invariant.unique c.self.view_is) ∙ known)
