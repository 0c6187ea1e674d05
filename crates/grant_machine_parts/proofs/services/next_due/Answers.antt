use Rattle.std.proofs.Common.{◌-◌, ◌/◌, Option, Some, sym, ap, ◌∙◌}
use Rattle.flow_state.specs.Limits.{due_time, due_index}
use Rattle.grant_machine_parts.specs.Cutting.{Periodic, run_flow}
use Rattle.grant_machine_parts.proofs.Giving.{GivenDue, given_due, round, round_due}
use Rattle.grant_machine_parts.proofs.services.next_due.Goals as goal

due : (c : goal.After-due_at) → GivenDue c.args.flow.now.kind c.in-Some.periodic
due c = given_due c.args.service c.args.channel.now c.args.flow.now.lease.sid c.args.flow.now.lease.last c.args.flow.now.kind c.in-Some.periodic (sym c.in-Some.ensures.same) c.requires.kind

pub returns-in_ok-next-in-Some-clause-index : goal.returns-in_ok-next-in-Some-clause-index
returns-in_ok-next-in-Some-clause-index c =
    let kind = c.args.flow.now.kind in
    let p = c.in-Some.periodic in
    let g : GivenDue kind p = due c in
    let f = c.args.filling.now in
    ap (due_index kind) c.due_at.ensures
    ∙ round kind p c.in_ok-next-in-Some.next g
    ∙ c.in_ok-next-in-Some.ensures.next
    ∙ ap (λ n. (run_flow f.span (Some p) ((c.args.flow.now.due - p.base) / n) f.placements).index) c.from.ensures
    ∙ ap (λ n. (run_flow f.span (Some p) n f.placements).index) (sym (g.index c.args.flow.now.due))
    ∙ ap (λ (o : Option Periodic). (run_flow f.span o (due_index kind c.args.flow.now.due) f.placements).index) c.in-Some.ensures.same

pub returns-in_ok-next-in-Some-clause-is_due : goal.returns-in_ok-next-in-Some-clause-is_due
returns-in_ok-next-in-Some-clause-is_due c =
    let kind = c.args.flow.now.kind in
    c.due_at.ensures ∙ round_due kind c.in-Some.periodic c.in_ok-next-in-Some.next (due c) ∙ ap (λ n. due_time kind (due_index kind n)) (sym c.due_at.ensures)
