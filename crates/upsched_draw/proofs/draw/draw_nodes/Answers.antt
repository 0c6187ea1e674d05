use Rattle.std.proofs.Common.{◌∙◌, List, ap, length}
use Rattle.ballots.specs.Members.{member_count}
use Rattle.watched_runs.specs.Marks.{seen_in}
use Rattle.world_events.specs.declared.event.Event.{Event}
use Rattle.upsched_draw.proofs.Told.{run_drawn}
use Rattle.upsched_draw.proofs.draw.draw_nodes.Goals as goal

pub returns : goal.returns
returns g c = λ honest.
    let went = c.in-Ok-watch_steps.ensures honest in
    let same = c.over-run.ensures went.0 went.1 ∙ ap (λ (events : List Event). seen_in events c.in-Ok-watch_steps.marks went.0) c.as_slice.ensures.value in
    run_drawn c.in_ok-drawn.drawn c.args.asked (member_count c.args.script.members) (length c.args.nodes.items) _ _ _ c.args.script.steps.items _ _
    c.over-run.result (g.O.Write.contents c.args.output.now) (g.O.Write.contents c.print_picture.new.output)
    c.requires.members (c.in-Ok.ensures.ids ∙ c.as_slice-ids.ensures.value) c.as_slice-ids.ensures.value same went.2 c.in_ok-drawn.ensures
