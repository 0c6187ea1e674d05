use Rattle.std.proofs.Common.{◌∙◌}
use Rattle.watched_runs.proofs.Cut.{rows_count}
use Rattle.watched_runs.proofs.watched.Watched.len.Goals as goal

pub returns : goal.returns
returns c =
    rw (← c.self.view_is)
    (c.min.ensures ∙ rows_count 0 c.self.inside.events.now c.self.inside.marks.now c.self.inside.letters.now c.self.inside.outputs.now)
