use Rattle.std.proofs.Common.{◌∙◌, ap, List, length}
use Rattle.watched_runs.specs.Marks.{seen_in}
use Rattle.world_events.specs.declared.event.Event.{Event}
use Rattle.upsched_run.proofs.Told.{run_told}
use Rattle.upsched_run.proofs.script_run.print_script.Goals as goal

pub returns-clause-printed : goal.returns-clause-printed
returns-clause-printed g c = λ honest.
    let went = c.in-Ok-watch_steps.ensures honest in
    let same = c.over-run.ensures went.0 went.1 ∙ ap (λ (events : List Event). seen_in events c.in-Ok-watch_steps.marks went.0) c.as_slice-2.ensures.value in
    run_told c.args.telling.trace (length c.args.nodes.items) _ _ c.args.script.steps.items _ _ c.over-run.result (g.O.Write.contents c.args.output.now) (g.O.Write.contents c.print_run.new.output)
    (c.in-Ok.ensures.ids ∙ c.as_slice.ensures.value) same went.2 c.in_ok-print_run.ensures.printed
