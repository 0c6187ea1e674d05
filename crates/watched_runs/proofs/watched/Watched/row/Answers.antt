use Rattle.std.proofs.Common.{◌∙◌}
use Rattle.watched_runs.specs.Shown.{shown}
use Rattle.watched_runs.proofs.Cut.{row_here, rows_length, rows_marked}
use Rattle.watched_runs.proofs.watched.Watched.row.Goals as goal

pub event_at-event-requires : goal.event_at-event-requires
event_at-event-requires c =
    rows_length 0 c.self.inside.events.now c.self.inside.marks.now c.self.inside.letters.now c.self.inside.outputs.now c.args.i (rw (← c.self.view_is) at c.requires)

pub mark_at-mark-requires : goal.mark_at-mark-requires
mark_at-mark-requires c =
    rows_marked 0 c.self.inside.events.now c.self.inside.marks.now c.self.inside.letters.now c.self.inside.outputs.now c.args.i (rw (← c.self.view_is) at c.requires)

pub returns : goal.returns
returns c =
    rw (← c.self.view_is)
    (c.row_at.ensures ∙ row_here c.self.inside.events.now c.self.inside.marks.now c.self.inside.letters.now c.self.inside.outputs.now c.args.i c.event_at-event.result.now
    c.mark_at-mark.result (shown c.row_at.result) (rw (← c.self.view_is) at c.requires) c.event_at-event.ensures c.mark_at-mark.ensures)
