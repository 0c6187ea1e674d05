use Rattle.std.proofs.Common.{◌≡◌, ap, sym, ◌∙◌, Option, Some, None}
use Rattle.std.specs.Option.{option_map, option_or}
use Rattle.flow_state.specs.Rows.{Table, FlowRow, flow_of}
use Rattle.flow_state.specs.Reasons.{why_not_asked, why_request_on}
use Rattle.flow_state.specs.declared.reason.Reason.{Reason}
use Rattle.flow_state.specs.declared.reason.Reason.TheVariants.{NoFlow}
use Rattle.flow_state.specs.View.{flow_view}
use Rattle.flow_state.proofs.Stored.{flow_found}
use Rattle.flow_state.proofs.table.ChannelTable.why_request.Goals as goal

pub returns-in-Some : goal.returns-in-Some
returns-in-Some c =
    let found : flow_of c.args.self.now c.args.sid ≡ Some (flow_view c.in-Some.flow.now) =
    ap (λ (t : Table). flow_of t c.args.sid) (sym c.self.view_is) ∙ flow_found c.self.inside.flows.entries c.args.sid c.self.invariant.flows ∙ ap (option_map flow_view) (sym c.in-Some.ensures) in
    c.or.ensures
    ∙ ap (λ (o : Option Reason). option_or o c.why_busy.result) c.why_not_asked.ensures
    ∙ ap (λ (o : Option Reason). option_or (why_not_asked (flow_view c.in-Some.flow.now) c.args.n c.args.sent) o) c.why_busy.ensures
    ∙ ap (λ (o : Option FlowRow). why_request_on o c.args.self.now c.args.sid c.args.n c.args.sent) (sym found)

pub returns-in-None : goal.returns-in-None
returns-in-None c =
    let found : flow_of c.args.self.now c.args.sid ≡ None =
    ap (λ (t : Table). flow_of t c.args.sid) (sym c.self.view_is) ∙ flow_found c.self.inside.flows.entries c.args.sid c.self.invariant.flows ∙ ap (option_map flow_view) (sym c.in-None.ensures) in
    ap (λ (t : Table). Some (NoFlow t.row.channel.id c.args.sid)) c.self.view_is
    ∙ ap (λ (o : Option FlowRow). why_request_on o c.args.self.now c.args.sid c.args.n c.args.sent) (sym found)
