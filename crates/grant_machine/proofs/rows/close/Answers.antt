use Rattle.std.proofs.Common.{rules, ◌≡◌, List, not, ap, ◌∙◌}
use Rattle.std.specs.List.{list_any}
use Rattle.std.proofs.lemmas.Fn.{filter_same}
use Rattle.flow_state.specs.declared.flow.Waiting.{Waiting}
use Rattle.flow_state.specs.Rows.{table_of}
use Rattle.flow_state.specs.Changes.{with_cut_finished, waiting_of}
use Rattle.grant_machine_parts.specs.Cutting.{is_grant_of, still_waiting}
use Rattle.grant_machine.proofs.rows.close.Goals as goal

pub returns : goal.returns
returns c =
    let ws : List Waiting = waiting_of (table_of c.args.flows.now c.args.ch) in
    let kept : c.finish_cut.ensures.rows.0 ≡ still_waiting c.args.placements.now ws =
    filter_same _ (λ w. not (list_any (is_grant_of w) c.args.placements.now)) _ (λ x b f k. search rules) _ _ c.finish_cut.ensures.rows.1 in
    c.finish_cut.ensures.rows.2 ∙ ap (λ (us : List Waiting). with_cut_finished c.args.flows.now c.args.ch c.args.served.now us c.args.end c.args.ack) kept
