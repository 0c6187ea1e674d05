use Rattle.std.proofs.Common.{◌∙◌}
use Rattle.watched_runs.proofs.Followed.{stage_is}
use Rattle.watched_runs.proofs.stepping.note_entry.Goals as goal

pub returns-clause-run : goal.returns-clause-run
returns-clause-run g c = λ honest members w0 w rows stands gone.
    let went = c.in_ok-note_rounds.ensures.run honest members w0 w rows stands gone in (
      went.0,
      went.1,
      went.2,
      went.3,
      went.4,
      stage_is members w0 w went.0 c.args.course.now _ rows went.1 c.args.number c.args.entry _ _ _ c.is_all-all.ensures (c.len-from.ensures ∙ c.args.course.now.events.ok.0) (c.len-to.ensures ∙ c.note_rounds.new.course.events.ok.0) gone went.3,
    )
