use Rattle.std.proofs.Common.{Option, Some, ap, ◌∙◌}
use Rattle.std.specs.Option.{option_map, option_map_or}
use Rattle.flow_state.specs.Rows.{Table}
use Rattle.flow_state.specs.Refusals.{table_change_refusal}
use Rattle.flow_state.specs.Reasons.{reason_refusal, why_change}
use Rattle.flow_state.specs.declared.reason.Reason.{Reason}
use Rattle.flow_state.specs.declared.reason.Reason.TheVariants.{NoChannel}
use Rattle.flow_state.proofs.Tables.{table_at}
use Rattle.flow_state.proofs.Whys.{change_refuses, on_refuses}
use Rattle.flow_state.proofs.flows.Flows.why_change.Goals as goal

pub returns-in-Some-clause-why : goal.returns-in-Some-clause-why
returns-in-Some-clause-why c = c.why_change.ensures ∙ ap (λ (o : Option Table). option_map_or (λ t. why_change t c.args.settings) o (Some (NoChannel c.args.ch))) (c.in-Some.ensures.value ∙ table_at c.self.inside.tables.entries c.args.self.now c.args.ch c.self.invariant.ids c.self.invariant.unique c.self.view_is)

pub returns-in-Some-clause-refusal : goal.returns-in-Some-clause-refusal
returns-in-Some-clause-refusal c =
    ap (λ (o : Option Reason). option_map reason_refusal o) (c.why_change.ensures ∙ ap (λ (o : Option Table). option_map_or (λ t. why_change t c.args.settings) o (Some (NoChannel c.args.ch))) (c.in-Some.ensures.value ∙ table_at c.self.inside.tables.entries c.args.self.now c.args.ch c.self.invariant.ids c.self.invariant.unique c.self.view_is))
    ∙ on_refuses c.args.self.now c.args.ch (λ t. why_change t c.args.settings) (λ t. table_change_refusal t c.args.settings) (λ t. change_refuses t c.args.settings)

pub returns-in-None-clause-why : goal.returns-in-None-clause-why
returns-in-None-clause-why c = ap (λ (o : Option Table). option_map_or (λ t. why_change t c.args.settings) o (Some (NoChannel c.args.ch))) (c.in-None.ensures.value ∙ table_at c.self.inside.tables.entries c.args.self.now c.args.ch c.self.invariant.ids c.self.invariant.unique c.self.view_is)

pub returns-in-None-clause-refusal : goal.returns-in-None-clause-refusal
returns-in-None-clause-refusal c =
    ap (λ (o : Option Reason). option_map reason_refusal o) (ap (λ (o : Option Table). option_map_or (λ t. why_change t c.args.settings) o (Some (NoChannel c.args.ch))) (c.in-None.ensures.value ∙ table_at c.self.inside.tables.entries c.args.self.now c.args.ch c.self.invariant.ids c.self.invariant.unique c.self.view_is))
    ∙ on_refuses c.args.self.now c.args.ch (λ t. why_change t c.args.settings) (λ t. table_change_refusal t c.args.settings) (λ t. change_refuses t c.args.settings)
