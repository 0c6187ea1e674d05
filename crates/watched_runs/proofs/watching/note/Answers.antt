use Rattle.std.proofs.Common.{length, ap}
use Rattle.watched_runs.proofs.Cut.{noted_so}
use Rattle.watched_runs.proofs.watching.note.Goals as goal

pub returns-clause-run : goal.returns-clause-run
returns-clause-run g c = λ honest w stands.
    let went = c.in_ok-answer.ensures.run honest w stands in (
      went.0,
      went.1,
      went.2,
      noted_so c.args.number c.args.event.now _ w went.0 _ _ _ _ _ (ap length (c.letters-letters.ensures.written w stands)) (ap length (c.letters.ensures.written went.0 went.2))
          (ap length (c.outputs-outputs.ensures.written w stands)) (ap length (c.outputs.ensures.written went.0 went.2)) went.3,
    )
