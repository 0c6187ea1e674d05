use Rattle.std.proofs.Common.{◌≤◌, Option, Some, sym, ap, subst, ◌∙◌}
use Rattle.std.specs.Option.{option_map, option_map_or}
use Rattle.flow_state.specs.declared.channel.ChannelRow.{ChannelRow}
use Rattle.flow_state.specs.declared.reason.Reason.{Reason}
use Rattle.flow_state.specs.declared.reason.Reason.TheVariants.{NoChannel}
use Rattle.flow_state.specs.Limits.{last_time}
use Rattle.flow_state.specs.Reasons.{reason_refusal}
use Rattle.flow_state.specs.Rows.{Table}
use Rattle.flow_state.proofs.Callers.{on_refuses}
use Rattle.grant_machine_parts.specs.Cutting.{fill_refusal}
use Rattle.grant_machine.specs.CutRows.{IsReachedTable}
use Rattle.grant_machine.specs.Why.{why_cut}
use Rattle.grant_machine.proofs.Closing.{table_early}
use Rattle.grant_machine.proofs.Whys.{cut_refuses}
use Rattle.grant_machine.proofs.why.why_cut_on.Goals as goal

pub why_cut-requires : goal.why_cut-requires
why_cut-requires c =
    let there : IsReachedTable c.in-Some.table.now = record { rows = c.args.flows.now; channel = c.args.ch; reached = c.requires; found = sym c.in-Some.ensures } in
    subst (λ (r : ChannelRow). r.next_start ≤ last_time) (sym c.row.ensures.row) (table_early c.in-Some.table.now there).0

pub returns-in-Some-clause-why : goal.returns-in-Some-clause-why
returns-in-Some-clause-why c =
    c.why_cut.ensures ∙ ap (λ (r : ChannelRow). why_cut r c.args.settings.now) c.row.ensures.row
    ∙ ap (λ (o : Option Table). option_map_or (λ t. why_cut t.row c.args.settings.now) o (Some (NoChannel c.args.ch))) c.in-Some.ensures

pub returns-in-Some-clause-refusal : goal.returns-in-Some-clause-refusal
returns-in-Some-clause-refusal c =
    ap (λ (o : Option Reason). option_map reason_refusal o)
    (c.why_cut.ensures ∙ ap (λ (r : ChannelRow). why_cut r c.args.settings.now) c.row.ensures.row
    ∙ ap (λ (o : Option Table). option_map_or (λ t. why_cut t.row c.args.settings.now) o (Some (NoChannel c.args.ch))) c.in-Some.ensures)
    ∙ on_refuses c.args.flows.now c.args.ch (λ t. why_cut t.row c.args.settings.now) (λ t. fill_refusal t.row c.args.settings.now) (λ t. cut_refuses t.row c.args.settings.now)

pub returns-in-None-clause-why : goal.returns-in-None-clause-why
returns-in-None-clause-why c = ap (λ (o : Option Table). option_map_or (λ t. why_cut t.row c.args.settings.now) o (Some (NoChannel c.args.ch))) c.in-None.ensures

pub returns-in-None-clause-refusal : goal.returns-in-None-clause-refusal
returns-in-None-clause-refusal c =
    ap (λ (o : Option Reason). option_map reason_refusal o) (ap (λ (o : Option Table). option_map_or (λ t. why_cut t.row c.args.settings.now) o (Some (NoChannel c.args.ch))) c.in-None.ensures)
    ∙ on_refuses c.args.flows.now c.args.ch (λ t. why_cut t.row c.args.settings.now) (λ t. fill_refusal t.row c.args.settings.now) (λ t. cut_refuses t.row c.args.settings.now)
