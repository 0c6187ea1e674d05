use Rattle.std.proofs.Common.{length}
use Rattle.network_script.specs.Counts.{CountNext}
use Rattle.watched_runs.proofs.Cut.{one_answer, one_at_least}
use Rattle.watched_runs.proofs.watching.answer_to.Goals as goal

pub first_answer-requires : goal.first_answer-requires
first_answer-requires g c = (one_at_least CountNext _ _ c.args.event.now c.in_ok-report.report (rw c.from_ref.ensures.value at c.in_ok-report.ensures.counted))

pub returns-clause-run : goal.returns-clause-run
returns-clause-run g c = λ honest w stands.
    let went = c.in_ok-report.ensures.run honest w stands in
    (went.0, one_answer (length w.nodes) w went.0 c.args.event.now c.in_ok-report.report _ (rw c.from_ref.ensures.value at went.1) c.first_answer.ensures, went.2)
