use Rattle.std.proofs.Common.{Option, Some, ap, ◌∙◌}
use Rattle.std.specs.Option.{option_map, option_map_or}
use Rattle.flow_state.specs.Rows.{Table}
use Rattle.flow_state.specs.Refusals.{table_drop_refusal}
use Rattle.flow_state.specs.Reasons.{reason_refusal, why_drop}
use Rattle.flow_state.specs.declared.reason.Reason.{Reason}
use Rattle.flow_state.specs.declared.reason.Reason.TheVariants.{NoChannel}
use Rattle.flow_state.proofs.Tables.{table_at}
use Rattle.flow_state.proofs.Whys.{drop_refuses, on_refuses}
use Rattle.flow_state.proofs.flows.Flows.why_drop.Goals as goal

pub returns-in-Some-clause-why : goal.returns-in-Some-clause-why
returns-in-Some-clause-why c = c.why_drop.ensures ∙ ap (λ (o : Option Table). option_map_or (λ t. why_drop t c.args.sid) o (Some (NoChannel c.args.ch))) (c.in-Some.ensures.value ∙ table_at c.self.inside.tables.entries c.args.self.now c.args.ch c.self.invariant.ids c.self.invariant.unique c.self.view_is)

pub returns-in-Some-clause-refusal : goal.returns-in-Some-clause-refusal
returns-in-Some-clause-refusal c =
    ap (λ (o : Option Reason). option_map reason_refusal o) (c.why_drop.ensures ∙ ap (λ (o : Option Table). option_map_or (λ t. why_drop t c.args.sid) o (Some (NoChannel c.args.ch))) (c.in-Some.ensures.value ∙ table_at c.self.inside.tables.entries c.args.self.now c.args.ch c.self.invariant.ids c.self.invariant.unique c.self.view_is))
    ∙ on_refuses c.args.self.now c.args.ch (λ t. why_drop t c.args.sid) (λ t. table_drop_refusal t c.args.sid) (λ t. drop_refuses t c.args.sid)

pub returns-in-None-clause-why : goal.returns-in-None-clause-why
returns-in-None-clause-why c = ap (λ (o : Option Table). option_map_or (λ t. why_drop t c.args.sid) o (Some (NoChannel c.args.ch))) (c.in-None.ensures.value ∙ table_at c.self.inside.tables.entries c.args.self.now c.args.ch c.self.invariant.ids c.self.invariant.unique c.self.view_is)

pub returns-in-None-clause-refusal : goal.returns-in-None-clause-refusal
returns-in-None-clause-refusal c =
    ap (λ (o : Option Reason). option_map reason_refusal o) (ap (λ (o : Option Table). option_map_or (λ t. why_drop t c.args.sid) o (Some (NoChannel c.args.ch))) (c.in-None.ensures.value ∙ table_at c.self.inside.tables.entries c.args.self.now c.args.ch c.self.invariant.ids c.self.invariant.unique c.self.view_is))
    ∙ on_refuses c.args.self.now c.args.ch (λ t. why_drop t c.args.sid) (λ t. table_drop_refusal t c.args.sid) (λ t. drop_refuses t c.args.sid)
