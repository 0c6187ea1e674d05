use Rattle.std.proofs.Common.{refl}
use Rattle.watched_runs.proofs.Seeing.{sight_is}
use Rattle.watched_runs.proofs.watching.step_of.Goals as goal

pub returns-clause-run : goal.returns-clause-run
returns-clause-run g c = λ honest w stands.
    let went = c.in_ok-answer.ensures.run honest w stands in (
      went.0,
      went.1,
      went.2,
      sight_is _ c.args.k c.args.place w went.0 c.post_at-post.result c.post_at-now.result c.changed.result c.knows-knew.result c.knows-known.result c.newly.result refl
          (c.post_at-post.ensures w stands) (c.post_at-now.ensures went.0 went.2) c.changed.ensures
          (c.knows-knew.ensures w stands) (c.knows-known.ensures went.0 went.2) c.newly.ensures,
    )
