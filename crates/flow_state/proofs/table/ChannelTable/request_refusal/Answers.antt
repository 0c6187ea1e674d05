use Rattle.std.proofs.Common.{◌≡◌, ap, sym, ◌∙◌, Bool, Option, Some, None, ℕ}
use Rattle.std.specs.Option.{option_map}
use Rattle.flow_state.specs.Rows.{Table, FlowRow, flow_of}
use Rattle.flow_state.specs.Refusals.{request_refusal_on, first_refusal, is_busy}
use Rattle.flow_state.specs.View.{flow_view}
use Rattle.flow_state.proofs.Stored.{flow_found, sid_found}
use Rattle.flow_state.proofs.table.ChannelTable.request_refusal.Goals as goal

pub returns-in-Some : goal.returns-in-Some
returns-in-Some c =
    let found : flow_of c.args.self.now c.args.sid ≡ Some (flow_view c.in-Some.flow.now) =
    ap (λ (t : Table). flow_of t c.args.sid) (sym c.self.view_is) ∙ flow_found c.self.inside.flows.entries c.args.sid c.self.invariant.flows ∙ ap (option_map flow_view) (sym c.in-Some.ensures) in
    c.request_refusal.ensures
    ∙ ap (λ (b : Bool). first_refusal (flow_view c.in-Some.flow.now) c.args.n c.args.sent b) c.is_busy.ensures
    ∙ ap (λ (s : ℕ). first_refusal (flow_view c.in-Some.flow.now) c.args.n c.args.sent (is_busy c.args.self.now s)) (sym (sid_found c.self.inside.flows.entries c.args.sid c.in-Some.flow.now c.self.invariant.flows (sym c.in-Some.ensures)))
    ∙ ap (λ (o : Option FlowRow). request_refusal_on o c.args.self.now c.args.n c.args.sent) (sym found)

pub returns-in-None : goal.returns-in-None
returns-in-None c =
    let found : flow_of c.args.self.now c.args.sid ≡ None =
    ap (λ (t : Table). flow_of t c.args.sid) (sym c.self.view_is) ∙ flow_found c.self.inside.flows.entries c.args.sid c.self.invariant.flows ∙ ap (option_map flow_view) (sym c.in-None.ensures) in
    ap (λ (o : Option FlowRow). request_refusal_on o c.args.self.now c.args.n c.args.sent) (sym found)
