use Rattle.std.proofs.Common.{◌≡◌, map}
use Rattle.flow_state.specs.Rows.{Table}
use Rattle.flow_state.specs.View.{flow_view}
use Rattle.grant_machine_parts.specs.Cutting.{fill_span, flows_served, end_of}
use Rattle.grant_machine.specs.CutRows.{IsOfTable, due_ones}
use Rattle.grant_machine.proofs.Settling.{parts_filled}
use Rattle.grant_machine.proofs.cut.place_all.Goals as goal

filled : (c : goal.In_ok-place_requests) (t : Table) → IsOfTable t (end_of c.args.filling.now.span) c.args.channel.now c.args.flows.now c.args.ranked.now
    → (c.place_requests.new.filling.placements ≡ (fill_span t c.args.filling.now.span c.args.settings.now).placements) × (map flow_view c.serve-3.new.flows ≡ due_ones t (end_of c.args.filling.now.span) (flows_served t c.args.filling.now.span))
filled c t of =
    parts_filled t c.args.settings.now c.args.channel.now c.args.filling.now c.serve.new.filling c.serve-2.new.filling c.serve-3.new.filling c.place_requests.new.filling c.args.flows.now c.serve.new.flows c.serve-2.new.flows c.serve-3.new.flows c.args.ranked.now of
    c.requires.empty
    (record { span = c.serve.ensures.span; placed = c.in_ok-serve.ensures.placed; flows = c.in_ok-serve.ensures.flows })
    (record { span = c.serve-2.ensures.span; placed = c.in_ok-serve-2.ensures.placed; flows = c.in_ok-serve-2.ensures.flows })
    (record { span = c.serve-3.ensures.span; placed = c.in_ok-serve-3.ensures.placed; flows = c.in_ok-serve-3.ensures.flows })
    c.in_ok-place_requests.ensures.placed

pub returns-clause-placed : goal.returns-clause-placed
returns-clause-placed c = λ t of. (filled c t of).0

pub returns-clause-flows : goal.returns-clause-flows
returns-clause-flows c = λ t of. (filled c t of).1
